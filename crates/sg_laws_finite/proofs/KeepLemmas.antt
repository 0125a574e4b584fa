-- The elements of a list that have a decided property, in their order.
use Rattle.std.proofs.Common.{◌≡◌, ◌≢◌, ◌<◌, ◌≤◌, List, [], ◌∷◌, length, refl, sym, ap, subst, inl, inr, arith}
use Rattle.std.specs.Prelude.{◌⊎◌, ◌↔◌, AllPairs, Contains}
use Rattle.std.proofs.lemmas.List.Kept.{AllPairs-cons}
use Rattle.sg_defs.proofs.ListLemmas.{contains-cases}
use Rattle.sg_laws_finite.specs.Listed.{IsListing}
use Rattle.sg_laws_finite.proofs.ElementLemmas.{contains-nil, here, later, all-from_contained, pairs-nil, pairs-first, pairs-tail}

-- the elements with Q
pub keep : {A : Type 0} (Q : A → Type 0) → ((x : A) → Q x ⊎ ¬ Q x) → List A → List A
keep Q decide [] = []
keep Q decide (x ∷ xs) = elim (decide x) [ inl q ↦ x ∷ keep Q decide xs | inr n ↦ keep Q decide xs ]

keep-nil : {A : Type 0} (Q : A → Type 0) (decide : (x : A) → Q x ⊎ ¬ Q x) → keep Q decide [] ≡ []
unfolding keep
keep-nil Q decide = refl

-- the first element is kept, or not
keep-first : {A : Type 0} (Q : A → Type 0) (decide : (x : A) → Q x ⊎ ¬ Q x) (x : A) (xs : List A) →
    (Q x × (keep Q decide (x ∷ xs) ≡ x ∷ keep Q decide xs)) ⊎ (¬ Q x × (keep Q decide (x ∷ xs) ≡ keep Q decide xs))
unfolding keep
keep-first {A = A} Q decide x xs = by (decide x)
  where
    by : (d : Q x ⊎ ¬ Q x) →
        (Q x × (elim d as (λ _. List A) [ inl q ↦ x ∷ keep Q decide xs | inr n ↦ keep Q decide xs ] ≡ x ∷ keep Q decide xs))
        ⊎ (¬ Q x × (elim d as (λ _. List A) [ inl q ↦ x ∷ keep Q decide xs | inr n ↦ keep Q decide xs ] ≡ keep Q decide xs))
    by (inl q) = inl (q, refl)
    by (inr n) = inr (n, refl)

module _ {A : Type 0} (Q : A → Type 0) (decide : (x : A) → Q x ⊎ ¬ Q x) where
  pub keep-of : (xs : List A) (y : A) → Contains (keep Q decide xs) y → Contains xs y × Q y
  keep-of [] y h = absurd (contains-nil y (subst (λ l. Contains l y) (keep-nil Q decide) h))
  keep-of (x ∷ xs) y h = elim (keep-first Q decide x xs) [
    | inl yes_ ↦ elim (contains-cases x (keep Q decide xs) y (subst (λ l. Contains l y) yes_.1 h)) [
      | inl e ↦ (subst (Contains (x ∷ xs)) e (here x xs), subst Q e yes_.0)
      | inr rest ↦ let p = keep-of xs y rest in (later x xs y p.0, p.1)
    ]
    | inr no_ ↦ let p = keep-of xs y (subst (λ l. Contains l y) no_.1 h) in (later x xs y p.0, p.1)
  ]

  pub keep-all : (xs : List A) (y : A) → Contains xs y → Q y → Contains (keep Q decide xs) y
  keep-all [] y h q = absurd (contains-nil y h)
  keep-all (x ∷ xs) y h q = elim (keep-first Q decide x xs) [
    | inl yes_ ↦ subst (λ l. Contains l y) (sym yes_.1) (elim (contains-cases x xs y h) as (λ _. Contains (x ∷ keep Q decide xs) y) [
      | inl e ↦ subst (Contains (x ∷ keep Q decide xs)) e (here x (keep Q decide xs))
      | inr rest ↦ later x (keep Q decide xs) y (keep-all xs y rest q)
    ])
    | inr no_ ↦ subst (λ l. Contains l y) (sym no_.1) (elim (contains-cases x xs y h) as (λ _. Contains (keep Q decide xs) y) [
      | inl e ↦ absurd (no_.0 (subst Q (sym e) q))
      | inr rest ↦ keep-all xs y rest q
    ])
  ]

  pub keep-length : (xs : List A) → length (keep Q decide xs) ≤ length xs
  keep-length [] = omega (arith, ap length (keep-nil Q decide))
  keep-length (x ∷ xs) = elim (keep-first Q decide x xs) [
    | inl yes_ ↦ omega (arith, keep-length xs, ap length yes_.1)
    | inr no_ ↦ omega (arith, keep-length xs, ap length no_.1)
  ]

  -- fewer where an element is dropped
  pub keep-shorter : (xs : List A) (y : A) → Contains xs y → ¬ Q y → length (keep Q decide xs) < length xs
  keep-shorter [] y h not = absurd (contains-nil y h)
  keep-shorter (x ∷ xs) y h not = elim (keep-first Q decide x xs) [
    | inl yes_ ↦ elim (contains-cases x xs y h) [
      | inl e ↦ absurd (not (subst Q e yes_.0))
      | inr rest ↦ omega (arith, keep-shorter xs y rest not, ap length yes_.1)
    ]
    | inr no_ ↦ omega (arith, keep-length xs, ap length no_.1)
  ]

  -- what is kept stays in order
  pub keep-pairs : (R : A → A → Type 0) (xs : List A) → AllPairs R xs → AllPairs R (keep Q decide xs)
  keep-pairs R [] p = subst (AllPairs R) (sym (keep-nil Q decide)) (pairs-nil R)
  keep-pairs R (x ∷ xs) p = elim (keep-first Q decide x xs) [
    | inl yes_ ↦
        let rest = keep-pairs R xs (pairs-tail R x xs p) in
        let front = all-from_contained (R x) (keep Q decide xs) (λ y h. pairs-first R x xs p y (keep-of xs y h).0) in
        subst (AllPairs R) (sym yes_.1) (AllPairs-cons R x (keep Q decide xs) front rest)
    | inr no_ ↦ subst (AllPairs R) (sym no_.1) (keep-pairs R xs (pairs-tail R x xs p))
  ]

  pub keep-exactly : (P : A → Type 0) (xs : List A) → ((x : A) → Contains xs x ↔ P x) → (x : A) → Contains (keep Q decide xs) x ↔ (P x × Q x)
  keep-exactly P xs exactly x = (
    (λ h. let k = keep-of xs x h in ((exactly x).0 k.0, k.1)),
    (λ h. keep-all xs x ((exactly x).1 h.0) h.1),
  )

  pub keep-listing : (P : A → Type 0) (xs : List A) → IsListing P xs → IsListing (λ x. P x × Q x) (keep Q decide xs)
  keep-listing P xs h = record { different = keep-pairs (λ x y. x ≢ y) xs h.different; exactly = keep-exactly P xs h.exactly }
