-- What follows where conditions are decided: their combinations, bounded search, and least numbers.
use Rattle.std.proofs.Common.{◌≡◌, ℕ, zero, suc, ◌+◌, ◌%◌, ◌<◌, ◌≤◌, List, [], ◌∷◌, sym, subst, inl, inr, refl, arith}
use Rattle.std.specs.Prelude.{◌⊎◌, ℤ, ◌<ℤ◌, ◌≤ℤ◌, All, Bool, true, false, IsTrue, ◌↔◌}
use Rattle.std.specs.Int.{◌∣◌}
use Rattle.std.proofs.lemmas.Bool.{cases_lt, cases_eq, true≢false}
use Rattle.std.proofs.lemmas.Int.{ints, by_lt_z}
use Rattle.std.proofs.lemmas.List.Elements.{All-nil, All-cons, All-head, All-tail}
use Rattle.std.proofs.lemmas.Nat.Gcd.{dvd_of_mod-eq-zero, mod-eq-zero_of_dvd}
use Rattle.sg_laws_invariants.specs.Decided.{Decided}

-- its contrary
pub decided-not : (P : Type 0) → Decided P → Decided (¬ P)
decided-not P (inl p) = inr (λ h. h p)
decided-not P (inr n) = inl n

-- both
pub decided-and : (P Q : Type 0) → Decided P → Decided Q → Decided (P × Q)
decided-and P Q (inl p) (inl q) = inl (p, q)
decided-and P Q (inl p) (inr m) = inr (λ h. m h.1)
decided-and P Q (inr n) q = inr (λ h. n h.0)

-- one of two
pub decided-or : (P Q : Type 0) → Decided P → Decided Q → Decided (P ⊎ Q)
decided-or P Q (inl p) q = inl (inl p)
decided-or P Q (inr n) (inl q) = inl (inr q)
decided-or P Q (inr n) (inr m) = inr (λ h. elim h [ inl p ↦ n p | inr q ↦ m q ])

-- one from the other
pub decided-implies : (P Q : Type 0) → Decided P → Decided Q → Decided (P → Q)
decided-implies P Q p (inl q) = inl (λ h. q)
decided-implies P Q (inl p) (inr m) = inr (λ h. m (h p))
decided-implies P Q (inr n) (inr m) = inl (λ h. absurd (n h))

-- conditions that say the same are decided together
pub decided-same : (P Q : Type 0) → (P → Q) → (Q → P) → Decided P → Decided Q
decided-same P Q to from (inl p) = inl (to p)
decided-same P Q to from (inr n) = inr (λ q. n (from q))

-- at most
pub decided-le : (a b : ℕ) → Decided (a ≤ b)
decided-le a b = elim (cases_lt b a) [ inl less ↦ inr (λ h. omega arith) | inr more ↦ inl more ]

-- below
pub decided-lt : (a b : ℕ) → Decided (a < b)
decided-lt a b = elim (cases_lt a b) [ inl less ↦ inl less | inr more ↦ inr (λ h. omega arith) ]

-- the same natural
pub decided-eq : (a b : ℕ) → Decided (a ≡ b)
decided-eq a b = cases_eq a b

-- below, of integers
pub decided-lt_z : (a b : ℤ) → Decided (a <ℤ b)
decided-lt_z a b = by_lt_z {P = Decided (a <ℤ b)} a b (λ less. inl less) (λ more. inr (λ h. omega (arith, ints)))

-- at most, of integers
pub decided-le_z : (a b : ℤ) → Decided (a ≤ℤ b)
decided-le_z a b = by_lt_z {P = Decided (a ≤ℤ b)} b a (λ less. inr (λ h. omega (arith, ints))) (λ more. inl more)

-- the same integer
pub decided-eq_z : (a b : ℤ) → Decided (a ≡ b)
decided-eq_z a b = by_lt_z {P = Decided (a ≡ b)} a b (λ less. inr (λ h. omega (arith, ints))) (λ more.
    by_lt_z {P = Decided (a ≡ b)} b a (λ less. inr (λ h. omega (arith, ints))) (λ back. inl (omega (arith, ints))))

-- whether a number divides another
pub decided-divides : (d n : ℕ) → Decided (d ∣ n)
decided-divides d n = elim (cases_eq (n % d) 0) [
  | inl e ↦ inl (dvd_of_mod-eq-zero d e)
  | inr other ↦ inr (λ h. other (mod-eq-zero_of_dvd d h))
]

module _ (P : ℕ → Type 0) (decided : (n : ℕ) → Decided (P n)) where
  -- of all numbers below b
  pub each-below : (b : ℕ) → Decided ((n : ℕ) → n < b → P n)
  each-below zero = inl (λ n l. absurd (omega arith))
  each-below (suc b) = elim (each-below b) [
    | inr not ↦ inr (λ h. not (λ n l. h n (omega arith)))
    | inl before ↦ elim (decided b) [
      | inr not ↦ inr (λ h. not (h b (omega arith)))
      | inl here ↦ inl (λ n l. elim (cases_lt n b) [
        | inl less ↦ before n less
        | inr last ↦ let e : b ≡ n = omega arith in subst P e here
      ])
    ]
  ]

  -- of some number below b
  pub some-below : (b : ℕ) → Decided ((n : ℕ) × (n < b) × P n)
  some-below zero = inr (λ h. omega (arith, h.1))
  some-below (suc b) = elim (some-below b) [
    | inl found ↦ inl (found.0, omega (arith, found.1), found.2)
    | inr none ↦ elim (decided b) [
      | inl here ↦ inl (b, omega arith, here)
      | inr not ↦ inr (λ h. elim (cases_lt h.0 b) [
        | inl less ↦ none (h.0, less, h.2)
        | inr last ↦ let e : h.0 ≡ b = omega (arith, h.1) in not (subst P e h.2)
      ])
    ]
  ]

  least-from : (k n : ℕ) → ((i : ℕ) → i < n → ¬ P i) → P (n + k) → (w : ℕ) × P w × ((i : ℕ) → P i → w ≤ i)
  least-from zero n before here = (n, subst P (let e : n + 0 ≡ n = omega arith in e) here, λ i p. elim (cases_lt i n) [ inl less ↦ absurd (before i less p) | inr more ↦ more ])
  least-from (suc k) n before here = elim (decided n) [
    | inl first ↦ (n, first, λ i p. elim (cases_lt i n) [ inl less ↦ absurd (before i less p) | inr more ↦ more ])
    | inr not ↦ least-from k (n + 1)
        (λ i l p. elim (cases_lt i n) [ inl less ↦ before i less p | inr last ↦ let e : i ≡ n = omega arith in not (subst P e p) ])
        (subst P (let e : n + suc k ≡ n + 1 + k = omega arith in e) here)
  ]

  -- the least number with P, where there is one
  pub least-exists : (n : ℕ) → P n → (w : ℕ) × P w × ((i : ℕ) → P i → w ≤ i)
  least-exists n here = least-from n 0 (λ i l. absurd (omega arith)) (subst P (let e : n ≡ 0 + n = omega arith in e) here)

-- of all entries
pub decided-all : {A : Type 0} (P : A → Type 0) → ((a : A) → Decided (P a)) → (xs : List A) → Decided (All P xs)
decided-all P decided [] = inl (All-nil P)
decided-all P decided (x ∷ xs) = elim (decided x) [
  | inr not ↦ inr (λ h. not (All-head P x xs h))
  | inl here ↦ elim (decided-all P decided xs) [
    | inr not ↦ inr (λ h. not (All-tail P x xs h))
    | inl rest ↦ inl (All-cons P x xs here rest)
  ]
]

-- a condition that is decided has a truth value
pub truth-exists : (P : Type 0) → Decided P → (b : Bool) × (IsTrue b ↔ P)
truth-exists P (inl p) = (true, ((λ h. p), (λ h. refl)))
truth-exists P (inr n) = (false, ((λ h. absurd (false_is_no h)), (λ p. absurd (n p))))
  where
    false_is_no : IsTrue false → ⊥
    false_is_no h = absurd (true≢false (sym h))
