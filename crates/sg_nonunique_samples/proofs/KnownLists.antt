-- The factorizations of small numbers, listed by computing.
use Rattle.std.proofs.Common.{◌≡◌, ℕ, ◌+◌, ◌*◌, ◌≤◌, List, [], ◌∷◌, refl, sym, subst, inl, inr, arith}
use Rattle.std.specs.Prelude.{◌⊎◌, All, Contains}
use Rattle.std.proofs.lemmas.List.Elements.{All-cons, All-nil}
use Rattle.sg_defs.specs.Membership.{IsFactorization}
use Rattle.sg_defs.specs.Vectors.{ListsDescending}
use Rattle.sg_defs.proofs.ListLemmas.{contains-cases}
use Rattle.sg_nonunique.specs.Walks.{IsWalk}
use Rattle.sg_nonunique.specs.Classes.{Share}
use Rattle.sg_laws_finite.specs.Listing.{levels, all_factorizations}
use Rattle.sg_laws_finite.proofs.ElementLemmas.{contains-nil}
use Rattle.sg_laws_finite.proofs.FactorizationLemmas.{factorizations-listed}
use Rattle.sg_laws_finite.proofs.WalkDecisions.{walk-start}

-- ---- generators

pub positive-2 : (a b : ℕ) → 1 ≤ a → 1 ≤ b → All (λ g. 1 ≤ g) (a ∷ b ∷ [])
positive-2 a b p q = All-cons (λ g. 1 ≤ g) a (b ∷ []) p (All-cons (λ g. 1 ≤ g) b [] q (All-nil (λ g. 1 ≤ g)))

pub positive-3 : (a b c : ℕ) → 1 ≤ a → 1 ≤ b → 1 ≤ c → All (λ g. 1 ≤ g) (a ∷ b ∷ c ∷ [])
positive-3 a b c p q r = All-cons (λ g. 1 ≤ g) a (b ∷ c ∷ []) p (positive-2 b c q r)

pub listed : (G : List ℕ) (n : ℕ) (l : List (List ℕ)) → All (λ g. 1 ≤ g) G → all_factorizations G n ≡ l → ListsDescending (IsFactorization G n) l
listed G n l p e = subst (ListsDescending (IsFactorization G n)) e (factorizations-listed G n p)

pub by_one : (g n : ℕ) (z : List ℕ) → IsFactorization (g ∷ []) n z → (a : ℕ) × (z ≡ a ∷ []) × (a * g ≡ n)
by_one g n [] f = absurd (omega (arith, f.places))
by_one g n (a ∷ []) f = (a, refl, omega (arith, f.value))
by_one g n (a ∷ b ∷ z) f = absurd (omega (arith, f.places))

pub by_two : (g h n : ℕ) (z : List ℕ) → IsFactorization (g ∷ h ∷ []) n z → (a b : ℕ) × (z ≡ a ∷ b ∷ []) × (a * g + b * h ≡ n)
by_two g h n [] f = absurd (omega (arith, f.places))
by_two g h n (a ∷ []) f = absurd (omega (arith, f.places))
by_two g h n (a ∷ b ∷ []) f = (a, b, refl, omega (arith, f.value))
by_two g h n (a ∷ b ∷ c ∷ z) f = absurd (omega (arith, f.places))

-- ---- listed numbers

-- in <3, 5, 7>
pub twelve : ListsDescending (IsFactorization (3 ∷ 5 ∷ 7 ∷ []) 12) ((4 ∷ 0 ∷ 0 ∷ []) ∷ (0 ∷ 1 ∷ 1 ∷ []) ∷ [])
unfolding levels all_factorizations
twelve = listed (3 ∷ 5 ∷ 7 ∷ []) 12 ((4 ∷ 0 ∷ 0 ∷ []) ∷ (0 ∷ 1 ∷ 1 ∷ []) ∷ []) (positive-3 3 5 7 (omega arith) (omega arith) (omega arith)) refl

pub ten : ListsDescending (IsFactorization (3 ∷ 5 ∷ 7 ∷ []) 10) ((1 ∷ 0 ∷ 1 ∷ []) ∷ (0 ∷ 2 ∷ 0 ∷ []) ∷ [])
unfolding levels all_factorizations
ten = listed (3 ∷ 5 ∷ 7 ∷ []) 10 ((1 ∷ 0 ∷ 1 ∷ []) ∷ (0 ∷ 2 ∷ 0 ∷ []) ∷ []) (positive-3 3 5 7 (omega arith) (omega arith) (omega arith)) refl

pub four : ListsDescending (IsFactorization (3 ∷ 5 ∷ 7 ∷ []) 4) []
unfolding levels all_factorizations
four = listed (3 ∷ 5 ∷ 7 ∷ []) 4 [] (positive-3 3 5 7 (omega arith) (omega arith) (omega arith)) refl

-- in <6, 10, 15>
pub thirty : ListsDescending (IsFactorization (6 ∷ 10 ∷ 15 ∷ []) 30) ((5 ∷ 0 ∷ 0 ∷ []) ∷ (0 ∷ 3 ∷ 0 ∷ []) ∷ (0 ∷ 0 ∷ 2 ∷ []) ∷ [])
unfolding levels all_factorizations
thirty = listed (6 ∷ 10 ∷ 15 ∷ []) 30 ((5 ∷ 0 ∷ 0 ∷ []) ∷ (0 ∷ 3 ∷ 0 ∷ []) ∷ (0 ∷ 0 ∷ 2 ∷ []) ∷ []) (positive-3 6 10 15 (omega arith) (omega arith) (omega arith)) refl

-- in <2, 3>
pub three-of_two_three : ListsDescending (IsFactorization (2 ∷ 3 ∷ []) 3) ((0 ∷ 1 ∷ []) ∷ [])
unfolding levels all_factorizations
three-of_two_three = listed (2 ∷ 3 ∷ []) 3 ((0 ∷ 1 ∷ []) ∷ []) (positive-2 2 3 (omega arith) (omega arith)) refl

pub six-of_two_three : ListsDescending (IsFactorization (2 ∷ 3 ∷ []) 6) ((3 ∷ 0 ∷ []) ∷ (0 ∷ 2 ∷ []) ∷ [])
unfolding levels all_factorizations
six-of_two_three = listed (2 ∷ 3 ∷ []) 6 ((3 ∷ 0 ∷ []) ∷ (0 ∷ 2 ∷ []) ∷ []) (positive-2 2 3 (omega arith) (omega arith)) refl

-- ---- what is one of few

pub one-of : {A : Type 0} (a x : A) → Contains (a ∷ []) x → x ≡ a
one-of a x h = elim (contains-cases a [] x h) [ inl e ↦ sym e | inr none ↦ absurd (contains-nil x none) ]

pub two-of : {A : Type 0} (a b x : A) → Contains (a ∷ b ∷ []) x → (x ≡ a) ⊎ (x ≡ b)
two-of a b x h = elim (contains-cases a (b ∷ []) x h) [ inl e ↦ inl (sym e) | inr rest ↦ inr (one-of b x rest) ]

pub three-of : {A : Type 0} (a b c x : A) → Contains (a ∷ b ∷ c ∷ []) x → (x ≡ a) ⊎ ((x ≡ b) ⊎ (x ≡ c))
three-of a b c x h = elim (contains-cases a (b ∷ c ∷ []) x h) [ inl e ↦ inl (sym e) | inr rest ↦ inr (two-of b c x rest) ]

-- a vector that shares a place with no other is alone in its class
pub alone : (V : List ℕ → Type 0) (x : List ℕ) → ((p : List ℕ) → V p → Share x p → p ≡ x) → (ps : List (List ℕ)) (y : List ℕ) → IsWalk V Share x ps y → y ≡ x
alone V x only [] y w = sym w.1
alone V x only (p ∷ ps) y w =
    let e = only p (walk-start Share V ps p y w.2) w.1 in
    alone V x only ps y (subst (λ v. IsWalk V Share v ps y) e w.2)
