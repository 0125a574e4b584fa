-- Classes of small numbers.
use Rattle.std.proofs.Common.{◌≡◌, ℕ, zero, suc, ◌<◌, List, [], ◌∷◌, get_or, refl, sym, ap, subst, inl, inr, arith}
use Rattle.sg_defs.specs.Membership.{IsFactorization}
use Rattle.sg_defs.specs.Vectors.{ListsDescending}
use Rattle.sg_nonunique.specs.Classes.{Share, IsSameClass, HasTwoClasses}
use Rattle.sg_laws_finite.specs.Listing.{levels, all_factorizations}
use Rattle.sg_laws_families.proofs.BettiLemmas.{no_classes_of_zero}
use Rattle.sg_laws_families.proofs.ClassLemmas.{class-here, class-step, class-then, class-back}
use Rattle.sg_nonunique_samples.proofs.KnownLists.{alone, listed, one-of, two-of, three-of, positive-3, ten, thirty, twelve, three-of_two_three, six-of_two_three}

-- vectors that share no place
no_share-3 : (a b c p q r : ℕ) → ((0 < a) → (0 < p) → ⊥) → ((0 < b) → (0 < q) → ⊥) → ((0 < c) → (0 < r) → ⊥) → Share (a ∷ b ∷ c ∷ []) (p ∷ q ∷ r ∷ []) → ⊥
no_share-3 a b c p q r x y z s = at s.0 s.1 s.2
  where
    at : (k : ℕ) → 0 < get_or (a ∷ b ∷ c ∷ []) k 0 → 0 < get_or (p ∷ q ∷ r ∷ []) k 0 → ⊥
    at zero h l = x h l
    at (suc zero) h l = y h l
    at (suc (suc zero)) h l = z h l
    at (suc (suc (suc k))) h l = omega arith

no_share-2 : (a b p q : ℕ) → ((0 < a) → (0 < p) → ⊥) → ((0 < b) → (0 < q) → ⊥) → Share (a ∷ b ∷ []) (p ∷ q ∷ []) → ⊥
no_share-2 a b p q x y s = at s.0 s.1 s.2
  where
    at : (k : ℕ) → 0 < get_or (a ∷ b ∷ []) k 0 → 0 < get_or (p ∷ q ∷ []) k 0 → ⊥
    at zero h l = x h l
    at (suc zero) h l = y h l
    at (suc (suc k)) h l = omega arith

-- ---- 12 and 10 in <3, 5, 7>

abbrev Twelve : List ℕ → Type 0
Twelve = IsFactorization (3 ∷ 5 ∷ 7 ∷ []) 12

pub twelve-first : (y : List ℕ) → IsSameClass Twelve (4 ∷ 0 ∷ 0 ∷ []) y → y ≡ 4 ∷ 0 ∷ 0 ∷ []
twelve-first y s = alone Twelve (4 ∷ 0 ∷ 0 ∷ []) only s.0 y s.1
  where
    only : (p : List ℕ) → Twelve p → Share (4 ∷ 0 ∷ 0 ∷ []) p → p ≡ 4 ∷ 0 ∷ 0 ∷ []
    only p f s = elim (two-of (4 ∷ 0 ∷ 0 ∷ []) (0 ∷ 1 ∷ 1 ∷ []) p ((twelve.exactly p).1 f)) [
      | inl e ↦ e
      | inr e ↦ absurd (no_share-3 4 0 0 0 1 1 (λ a b. omega arith) (λ a b. omega arith) (λ a b. omega arith) (subst (Share (4 ∷ 0 ∷ 0 ∷ [])) e s))
    ]

abbrev Ten : List ℕ → Type 0
Ten = IsFactorization (3 ∷ 5 ∷ 7 ∷ []) 10

pub ten-second : (y : List ℕ) → IsSameClass Ten (0 ∷ 2 ∷ 0 ∷ []) y → y ≡ 0 ∷ 2 ∷ 0 ∷ []
ten-second y s = alone Ten (0 ∷ 2 ∷ 0 ∷ []) only s.0 y s.1
  where
    only : (p : List ℕ) → Ten p → Share (0 ∷ 2 ∷ 0 ∷ []) p → p ≡ 0 ∷ 2 ∷ 0 ∷ []
    only p f s = elim (two-of (1 ∷ 0 ∷ 1 ∷ []) (0 ∷ 2 ∷ 0 ∷ []) p ((ten.exactly p).1 f)) [
      | inr e ↦ e
      | inl e ↦ absurd (no_share-3 0 2 0 1 0 1 (λ a b. omega arith) (λ a b. omega arith) (λ a b. omega arith) (subst (Share (0 ∷ 2 ∷ 0 ∷ [])) e s))
    ]

pub two_classes : HasTwoClasses (IsFactorization (3 ∷ 5 ∷ 7 ∷ []) 10)
two_classes = (0 ∷ 2 ∷ 0 ∷ [], 1 ∷ 0 ∷ 1 ∷ [], record { places = refl; value = refl }, record { places = refl; value = refl }, apart)
  where
    apart : IsSameClass Ten (0 ∷ 2 ∷ 0 ∷ []) (1 ∷ 0 ∷ 1 ∷ []) → ⊥
    apart s = let f : ◌≡◌ {A = ℕ} 1 0 = ap (λ z. get_or z 0 0) (ten-second (1 ∷ 0 ∷ 1 ∷ []) s) in omega arith

pub zero-one_class : HasTwoClasses (IsFactorization (3 ∷ 5 ∷ 7 ∷ []) 0) → ⊥
zero-one_class = no_classes_of_zero (3 ∷ 5 ∷ 7 ∷ []) (positive-3 3 5 7 (omega arith) (omega arith) (omega arith)) 0 refl

-- ---- 17 in <3, 5, 7>: each factorization shares with the last

abbrev Seventeen : List ℕ → Type 0
Seventeen = IsFactorization (3 ∷ 5 ∷ 7 ∷ []) 17

seventeen : ListsDescending Seventeen ((4 ∷ 1 ∷ 0 ∷ []) ∷ (1 ∷ 0 ∷ 2 ∷ []) ∷ (0 ∷ 2 ∷ 1 ∷ []) ∷ [])
unfolding levels all_factorizations
seventeen = listed (3 ∷ 5 ∷ 7 ∷ []) 17 ((4 ∷ 1 ∷ 0 ∷ []) ∷ (1 ∷ 0 ∷ 2 ∷ []) ∷ (0 ∷ 2 ∷ 1 ∷ []) ∷ []) (positive-3 3 5 7 (omega arith) (omega arith) (omega arith)) refl

with_last : (x : List ℕ) → Seventeen x → IsSameClass Seventeen x (0 ∷ 2 ∷ 1 ∷ [])
with_last x f = elim (three-of (4 ∷ 1 ∷ 0 ∷ []) (1 ∷ 0 ∷ 2 ∷ []) (0 ∷ 2 ∷ 1 ∷ []) x ((seventeen.exactly x).1 f)) [
  | inl e ↦ class-step Seventeen x (0 ∷ 2 ∷ 1 ∷ []) f last (subst (λ v. Share v (0 ∷ 2 ∷ 1 ∷ [])) (sym e) (1, omega arith, omega arith))
  | inr other ↦ elim other [
    | inl e ↦ class-step Seventeen x (0 ∷ 2 ∷ 1 ∷ []) f last (subst (λ v. Share v (0 ∷ 2 ∷ 1 ∷ [])) (sym e) (2, omega arith, omega arith))
    | inr e ↦ subst (λ v. IsSameClass Seventeen v (0 ∷ 2 ∷ 1 ∷ [])) (sym e) (class-here Seventeen (0 ∷ 2 ∷ 1 ∷ []) last)
  ]
]
  where
    last : Seventeen (0 ∷ 2 ∷ 1 ∷ [])
    last = record { places = refl; value = refl }

pub seventeen-one_class : HasTwoClasses (IsFactorization (3 ∷ 5 ∷ 7 ∷ []) 17) → ⊥
seventeen-one_class h =
    let m = 0 ∷ 2 ∷ 1 ∷ [] in
    h.4 (class-then Seventeen h.0 m h.1 (with_last h.0 h.2) (class-back Seventeen h.1 m (with_last h.1 h.3)))

-- ---- 30 in <6, 10, 15>: each factorization is alone in its class

abbrev Thirty : List ℕ → Type 0
Thirty = IsFactorization (6 ∷ 10 ∷ 15 ∷ []) 30

pub thirty-first : (y : List ℕ) → IsSameClass Thirty (5 ∷ 0 ∷ 0 ∷ []) y → y ≡ 5 ∷ 0 ∷ 0 ∷ []
thirty-first y s = alone Thirty (5 ∷ 0 ∷ 0 ∷ []) only s.0 y s.1
  where
    only : (p : List ℕ) → Thirty p → Share (5 ∷ 0 ∷ 0 ∷ []) p → p ≡ 5 ∷ 0 ∷ 0 ∷ []
    only p f s = elim (three-of (5 ∷ 0 ∷ 0 ∷ []) (0 ∷ 3 ∷ 0 ∷ []) (0 ∷ 0 ∷ 2 ∷ []) p ((thirty.exactly p).1 f)) [
      | inl e ↦ e
      | inr other ↦ elim other [
        | inl e ↦ absurd (no_share-3 5 0 0 0 3 0 (λ a b. omega arith) (λ a b. omega arith) (λ a b. omega arith) (subst (Share (5 ∷ 0 ∷ 0 ∷ [])) e s))
        | inr e ↦ absurd (no_share-3 5 0 0 0 0 2 (λ a b. omega arith) (λ a b. omega arith) (λ a b. omega arith) (subst (Share (5 ∷ 0 ∷ 0 ∷ [])) e s))
      ]
    ]

pub thirty-middle : (y : List ℕ) → IsSameClass Thirty (0 ∷ 3 ∷ 0 ∷ []) y → y ≡ 0 ∷ 3 ∷ 0 ∷ []
thirty-middle y s = alone Thirty (0 ∷ 3 ∷ 0 ∷ []) only s.0 y s.1
  where
    only : (p : List ℕ) → Thirty p → Share (0 ∷ 3 ∷ 0 ∷ []) p → p ≡ 0 ∷ 3 ∷ 0 ∷ []
    only p f s = elim (three-of (5 ∷ 0 ∷ 0 ∷ []) (0 ∷ 3 ∷ 0 ∷ []) (0 ∷ 0 ∷ 2 ∷ []) p ((thirty.exactly p).1 f)) [
      | inl e ↦ absurd (no_share-3 0 3 0 5 0 0 (λ a b. omega arith) (λ a b. omega arith) (λ a b. omega arith) (subst (Share (0 ∷ 3 ∷ 0 ∷ [])) e s))
      | inr other ↦ elim other [
        | inl e ↦ e
        | inr e ↦ absurd (no_share-3 0 3 0 0 0 2 (λ a b. omega arith) (λ a b. omega arith) (λ a b. omega arith) (subst (Share (0 ∷ 3 ∷ 0 ∷ [])) e s))
      ]
    ]

pub thirty-last : (y : List ℕ) → IsSameClass Thirty (0 ∷ 0 ∷ 2 ∷ []) y → y ≡ 0 ∷ 0 ∷ 2 ∷ []
thirty-last y s = alone Thirty (0 ∷ 0 ∷ 2 ∷ []) only s.0 y s.1
  where
    only : (p : List ℕ) → Thirty p → Share (0 ∷ 0 ∷ 2 ∷ []) p → p ≡ 0 ∷ 0 ∷ 2 ∷ []
    only p f s = elim (three-of (5 ∷ 0 ∷ 0 ∷ []) (0 ∷ 3 ∷ 0 ∷ []) (0 ∷ 0 ∷ 2 ∷ []) p ((thirty.exactly p).1 f)) [
      | inl e ↦ absurd (no_share-3 0 0 2 5 0 0 (λ a b. omega arith) (λ a b. omega arith) (λ a b. omega arith) (subst (Share (0 ∷ 0 ∷ 2 ∷ [])) e s))
      | inr other ↦ elim other [
        | inl e ↦ absurd (no_share-3 0 0 2 0 3 0 (λ a b. omega arith) (λ a b. omega arith) (λ a b. omega arith) (subst (Share (0 ∷ 0 ∷ 2 ∷ [])) e s))
        | inr e ↦ e
      ]
    ]

pub thirty-12 : IsSameClass Thirty (5 ∷ 0 ∷ 0 ∷ []) (0 ∷ 3 ∷ 0 ∷ []) → ⊥
thirty-12 s = let f : ◌≡◌ {A = ℕ} 0 5 = ap (λ z. get_or z 0 0) (thirty-first (0 ∷ 3 ∷ 0 ∷ []) s) in omega arith

pub thirty-13 : IsSameClass Thirty (5 ∷ 0 ∷ 0 ∷ []) (0 ∷ 0 ∷ 2 ∷ []) → ⊥
thirty-13 s = let f : ◌≡◌ {A = ℕ} 0 5 = ap (λ z. get_or z 0 0) (thirty-first (0 ∷ 0 ∷ 2 ∷ []) s) in omega arith

pub thirty-23 : IsSameClass Thirty (0 ∷ 3 ∷ 0 ∷ []) (0 ∷ 0 ∷ 2 ∷ []) → ⊥
thirty-23 s = let f : ◌≡◌ {A = ℕ} 0 3 = ap (λ z. get_or z 1 0) (thirty-middle (0 ∷ 0 ∷ 2 ∷ []) s) in omega arith

-- ---- 3 and 6 in <2, 3>

abbrev Six : List ℕ → Type 0
Six = IsFactorization (2 ∷ 3 ∷ []) 6

pub six-first : (y : List ℕ) → IsSameClass Six (3 ∷ 0 ∷ []) y → y ≡ 3 ∷ 0 ∷ []
six-first y s = alone Six (3 ∷ 0 ∷ []) only s.0 y s.1
  where
    only : (p : List ℕ) → Six p → Share (3 ∷ 0 ∷ []) p → p ≡ 3 ∷ 0 ∷ []
    only p f s = elim (two-of (3 ∷ 0 ∷ []) (0 ∷ 2 ∷ []) p ((six-of_two_three.exactly p).1 f)) [
      | inl e ↦ e
      | inr e ↦ absurd (no_share-2 3 0 0 2 (λ a b. omega arith) (λ a b. omega arith) (subst (Share (3 ∷ 0 ∷ [])) e s))
    ]

pub six-second : (y : List ℕ) → IsSameClass Six (0 ∷ 2 ∷ []) y → y ≡ 0 ∷ 2 ∷ []
six-second y s = alone Six (0 ∷ 2 ∷ []) only s.0 y s.1
  where
    only : (p : List ℕ) → Six p → Share (0 ∷ 2 ∷ []) p → p ≡ 0 ∷ 2 ∷ []
    only p f s = elim (two-of (3 ∷ 0 ∷ []) (0 ∷ 2 ∷ []) p ((six-of_two_three.exactly p).1 f)) [
      | inl e ↦ absurd (no_share-2 0 2 3 0 (λ a b. omega arith) (λ a b. omega arith) (subst (Share (0 ∷ 2 ∷ [])) e s))
      | inr e ↦ e
    ]

pub six-apart : IsSameClass Six (3 ∷ 0 ∷ []) (0 ∷ 2 ∷ []) → ⊥
six-apart s = let f : ◌≡◌ {A = ℕ} 0 3 = ap (λ z. get_or z 0 0) (six-first (0 ∷ 2 ∷ []) s) in omega arith

pub three-one_class : HasTwoClasses (IsFactorization (2 ∷ 3 ∷ []) 3) → ⊥
three-one_class h =
    let V = IsFactorization (2 ∷ 3 ∷ []) 3 in
    let a = one-of (0 ∷ 1 ∷ []) h.0 ((three-of_two_three.exactly h.0).1 h.2) in
    let b = one-of (0 ∷ 1 ∷ []) h.1 ((three-of_two_three.exactly h.1).1 h.3) in
    h.4 (subst (IsSameClass V h.0) (let e : h.0 ≡ h.1 = cc in e) (class-here V h.0 h.2))
