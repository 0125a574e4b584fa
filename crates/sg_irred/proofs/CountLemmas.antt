-- How many of the numbers below a bound pass a test.
use Rattle.std.proofs.Common.{◌≡◌, ℕ, zero, suc, ◌+◌, ◌<◌, ◌≤◌, Bool, true, false, cond, List, [], ◌∷◌, ◌++◌, length, refl, ap, subst, ◌∙◌, inl, inr, arith}
use Rattle.std.specs.Prelude.{◌⊎◌}
use Rattle.std.proofs.lemmas.Bool.{cases_lt}
use Rattle.std.proofs.lemmas.List.{length_push}
use Rattle.sg_defs.specs.Listings.{Lists}
use Rattle.sg_classes.proofs.OneListLemmas.{same-increasing}
use Rattle.sg_invar.proofs.ListingLemmas.{ListsBelow, lists-none, lists-push, lists-skip}

-- 1 for what passes, and 0 for what does not
abbrev pub one_if : Bool → ℕ
one_if true = 1
one_if false = 0

-- how many numbers below n pass
abbrev pub count_below : (ℕ → Bool) → ℕ → ℕ
count_below p zero = 0
count_below p (suc n) = count_below p n + one_if (p n)

-- passes both tests
abbrev pub both : (ℕ → Bool) → (ℕ → Bool) → ℕ → Bool
both p q x = cond (p x) (q x) false

-- a truth value is one of the two
pub told : (b : Bool) → (b ≡ true) ⊎ (b ≡ false)
told true = inl refl
told false = inr refl

-- and not both
pub never : {P : Type 0} (b : Bool) → b ≡ true → b ≡ false → P
never b e f = absurd cc

-- where both pass, each does
pub both-true : (a b : Bool) → cond a b false ≡ true → (a ≡ true) × (b ≡ true)
both-true true b e = (refl, e)
both-true false b e = absurd cc

-- where each passes, both do
pub true-both : (a b : Bool) → a ≡ true → b ≡ true → cond a b false ≡ true
true-both true b e f = f
true-both false b e f = absurd cc

count-front : (p : ℕ → Bool) (n : ℕ) → count_below p (suc n) ≡ one_if (p 0) + count_below (λ x. p (suc x)) n
count-front p zero = omega arith
count-front p (suc n) = omega (arith, count-front p n)

-- the numbers counted from the other end
pub count-reversed : (p q : ℕ → Bool) (n : ℕ) → ((x y : ℕ) → x + suc y ≡ n → q x ≡ p y) → count_below q n ≡ count_below p n
count-reversed p q zero h = refl
count-reversed p q (suc n) h =
    let rest = count-reversed (λ x. p (suc x)) q n (λ x y e. h x (suc y) (omega arith)) in
    omega (arith, rest, ap one_if (h n 0 (omega arith)), count-front p n)

one_if-pair : (a b : Bool) → (a ≡ false → b ≡ true) → one_if a + one_if b ≡ 1 + one_if (cond a b false)
one_if-pair true b h = omega arith
one_if-pair false b h = omega (arith, ap one_if (h refl))

-- where each number passes one of two tests, those that pass both are counted twice
pub count-pair : (p q : ℕ → Bool) (n : ℕ) → ((x : ℕ) → x < n → p x ≡ false → q x ≡ true) → count_below p n + count_below q n ≡ n + count_below (both p q) n
count-pair p q zero h = refl
count-pair p q (suc n) h = omega (arith, count-pair p q n (λ x l. h x (omega arith)), one_if-pair (p n) (q n) (h n (omega arith)))

-- where none passes, there are none
pub count-none : (p : ℕ → Bool) (n : ℕ) → ((x : ℕ) → x < n → p x ≡ false) → count_below p n ≡ 0
count-none p zero h = refl
count-none p (suc n) h = omega (arith, count-none p n (λ x l. h x (omega arith)), ap one_if (h n (omega arith)))

-- where one passes, there is one
pub count-some : (p : ℕ → Bool) (n x : ℕ) → x < n → p x ≡ true → 1 ≤ count_below p n
count-some p zero x l h = absurd (omega arith)
count-some p (suc n) x l h = elim (cases_lt x n) [
  | inl less ↦ omega (arith, count-some p n x less h)
  | inr more ↦ let e : x ≡ n = omega arith in omega (arith, ap one_if (subst (λ y. p y ≡ true) e h))
]

-- where two different ones pass, there are two
pub count-two : (p : ℕ → Bool) (n x y : ℕ) → x < y → y < n → p x ≡ true → p y ≡ true → 2 ≤ count_below p n
count-two p zero x y l k h g = absurd (omega arith)
count-two p (suc n) x y l k h g = elim (cases_lt y n) [
  | inl less ↦ omega (arith, count-two p n x y l less h g)
  | inr more ↦ let e : y ≡ n = omega arith in omega (arith, ap one_if (subst (λ z. p z ≡ true) e g), count-some p n x (omega arith) h)
]

-- where no number but a passes
pub count-single : (p : ℕ → Bool) (n a : ℕ) → ((x : ℕ) → x < n → p x ≡ true → x ≡ a) → count_below p n ≤ 1
count-single p zero a h = omega arith
count-single p (suc n) a h = elim (told (p n)) [
  | inl passes ↦
      let last : n ≡ a = h n (omega arith) passes in
      let before : count_below p n ≡ 0 = count-none p n (λ x l. other x l last (told (p x))) in
      omega (arith, before, ap one_if passes)
  | inr fails ↦ omega (arith, count-single p n a (λ x l. h x (omega arith)), ap one_if fails)
]
  where
    other : (x : ℕ) → x < n → n ≡ a → (p x ≡ true) ⊎ (p x ≡ false) → p x ≡ false
    other x l last (inl passes) = absurd (let e = h x (omega arith) passes in omega arith)
    other x l last (inr fails) = fails

-- the greatest number that passes, or that there is none
pub greatest-with : (p : ℕ → Bool) (n : ℕ) → ((x : ℕ) × (x < n) × (p x ≡ true) × ((y : ℕ) → x < y → y < n → p y ≡ false)) ⊎ ((x : ℕ) → x < n → p x ≡ false)
greatest-with p zero = inr (λ x l. absurd (omega arith))
greatest-with p (suc n) = elim (told (p n)) [
  | inl passes ↦ inl (n, omega arith, passes, λ y l k. absurd (omega arith))
  | inr fails ↦ elim (greatest-with p n) [
    | inl found ↦ inl (
      found.0,
      omega (arith, found.1),
      found.2,
      λ y l k. elim (cases_lt y n) [
        | inl less ↦ found.3 y l less
        | inr more ↦ let e : n ≡ y = omega arith in subst (λ z. p z ≡ false) e fails
      ],
    )
    | inr none ↦ inr (λ x l. elim (cases_lt x n) [
      | inl less ↦ none x less
      | inr more ↦ let e : n ≡ x = omega arith in subst (λ z. p z ≡ false) e fails
    ])
  ]
]

-- those that pass, written out
passing : (p : ℕ → Bool) (n : ℕ) → (l : List ℕ) × ListsBelow (λ x. p x ≡ true) n l × (length l ≡ count_below p n)
passing p zero = ([], lists-none (λ x. p x ≡ true), refl)
passing p (suc n) =
    let before = passing p n in
    let next : n + 1 ≡ suc n = omega arith in
    elim (told (p n)) [
      | inl passes ↦ (
        before.0 ++ n ∷ [],
        subst (λ k. ListsBelow (λ x. p x ≡ true) k (before.0 ++ n ∷ [])) next (lists-push (λ x. p x ≡ true) n before.0 passes before.1),
        omega (arith, length_push before.0 n, before.2, ap one_if passes),
      )
      | inr fails ↦ (
        before.0,
        subst (λ k. ListsBelow (λ x. p x ≡ true) k before.0) next (lists-skip (λ x. p x ≡ true) n before.0 (λ e. never (p n) e fails) before.1),
        omega (arith, before.2, ap one_if fails),
      )
    ]

-- a list of all numbers with P is as long as the count, where the test tells P and nothing from n on has it
pub count-listed : (P : ℕ → Type 0) (p : ℕ → Bool) (n : ℕ) (l : List ℕ) → ((x : ℕ) → P x → p x ≡ true) → ((x : ℕ) → p x ≡ true → P x) → ((x : ℕ) → P x → x < n) →
    Lists P l → length l ≡ count_below p n
count-listed P p n l passes has below h =
    let c = passing p n in
    let same = same-increasing l c.0 h.ascending c.1.ascending
    (λ x q. (c.1.exactly x).1 (below x ((h.exactly x).0 q), passes x ((h.exactly x).0 q)))
    (λ x q. (h.exactly x).1 (has x ((c.1.exactly x).0 q).1)) in
    ap length same ∙ c.2
