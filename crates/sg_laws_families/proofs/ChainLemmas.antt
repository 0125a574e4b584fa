-- The catenary degree over all elements is the greatest, over elements with two classes and their classes, of the least
-- length in the class.
use Rattle.std.proofs.Common.{◌≡◌, ℕ, ◌<◌, ◌≤◌, List, [], ◌∷◌, length, sum, sym, subst, ◌∙◌, inl, inr, arith}
use Rattle.sg_defs.specs.Vectors.{distance}
use Rattle.sg_nonunique.specs.Places.{raise}
use Rattle.sg_nonunique.specs.Walks.{IsWalk, IsJoined}
use Rattle.sg_nonunique.specs.Classes.{IsSameClass}
use Rattle.sg_nonunique.specs.Catenary.{IsChained, IsCatenary}
use Rattle.sg_nonunique.proofs.WalkLemmas.{joined-here, joined-step, joined-then, joined-map}
use Rattle.sg_laws_finite.proofs.SetLemmas.{share-decided}
use Rattle.sg_laws_finite.proofs.WalkDecisions.{walk-start}
use Rattle.sg_laws_families.specs.Bounds.{IsGreatestLeastLength}
use Rattle.sg_laws_families.proofs.Families.{IsFamily}
use Rattle.sg_laws_families.proofs.ClassLemmas.{Crosses, class-induction, class-here, class-step, class-then, class-back, class-end}
use Rattle.sg_laws_families.proofs.DistanceLemmas.{distance-raise, distance-le, distance-apart}

-- a step of distance at most N
abbrev IsNear : ℕ → List ℕ → List ℕ → Type 0
IsNear N a b = distance a b ≤ N

-- a class of which each vector has more than c places' worth is left by no step of distance at most c
module _ (V : List ℕ → Type 0) (k : ℕ) (places : (x : List ℕ) → V x → length x ≡ k) (x : List ℕ) (c : ℕ) (long : (a : List ℕ) → IsSameClass V x a → c < sum a) where
  near-stays : (a b : List ℕ) → IsSameClass V x a → V b → IsNear c a b → IsSameClass V x b
  near-stays a b j w near =
      let v = class-end V x a j in
      elim (share-decided a b) [
        | inl s ↦ class-then V x a b j (class-step V a b v w s)
        | inr apart ↦ absurd (omega (arith, near, long a j, distance-apart a b (places a v ∙ sym (places b w)) apart))
      ]

  near-walk : (ps : List (List ℕ)) (a b : List ℕ) → IsSameClass V x a → IsWalk V (IsNear c) a ps b → IsSameClass V x b
  near-walk [] a b j w = subst (IsSameClass V x) w.1 j
  near-walk (p ∷ ps) a b j w = near-walk ps p b (near-stays a p j (walk-start (IsNear c) V ps p b w.2) w.1) w.2

  -- so a vector of another class leaves the set unchained
  pub unchained : (y : List ℕ) → V x → V y → ¬ IsSameClass V x y → IsChained V c → ⊥
  unchained y v w apart h = let j = h x y v w in apart (near-walk j.0 x y (class-here V x v) j.1)

module _ {I : Type 0} (F : I → List ℕ → Type 0) (size : I → ℕ) (k : ℕ) (family : IsFamily F size k) where
  -- where a vector of length at most N is in each class of two, every element is chained by N
  pub chained-from_classes : (N : ℕ) → ((n : I) (x y : List ℕ) → F n x → F n y → ¬ IsSameClass (F n) x y → (a : List ℕ) × IsSameClass (F n) x a × (sum a ≤ N)) →
      (n : I) → IsChained (F n) N
  chained-from_classes N short n x y p q =
      class-induction F size k family (λ m. IsJoined (F m) (IsNear N))
      (λ m v f. joined-here (F m) (IsNear N) v f)
      (λ m. joined-then (F m) (IsNear N))
      (λ m l i inside keep a b f g j. joined-map (F m) (F l) (IsNear N) (IsNear N) (λ v. raise v i) keep
      (λ u v h r d. subst (λ t. t ≤ N) (sym (distance-raise u v i (family.places m u h ∙ sym (family.places m v r)))) d) j.0 a b g j.1)
      cross n x y p q
    where
      cross : (n : I) (x y : List ℕ) → F n x → F n y → ¬ IsSameClass (F n) x y → Crosses (F n) (IsJoined (F n) (IsNear N)) x y
      cross n x y p q apart =
          let a = short n x y p q apart in
          let b = short n y x q p (λ h. apart (class-back (F n) y x h)) in (
            a.0,
            b.0,
            a.1,
            joined-step (F n) (IsNear N) a.0 b.0 (class-end (F n) x a.0 a.1) (class-end (F n) y b.0 b.1) (distance-le a.0 b.0 N a.2 b.2),
            class-back (F n) y b.0 b.1,
          )

  pub catenary-from_classes : (N : ℕ) → IsGreatestLeastLength F N → IsCatenary F N
  catenary-from_classes N h = record {
    chained = chained-from_classes N h.bound;
    least = λ c less. elim h.reached [
      | inl none ↦ absurd (omega (arith, less, none))
      | inr at ↦ (at.0, unchained (F at.0) k (family.places at.0) at.1 c (λ a j. let l = at.6 a j in omega arith) at.2 at.3 at.4 at.5)
    ];
  }
