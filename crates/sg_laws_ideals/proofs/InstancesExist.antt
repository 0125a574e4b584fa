-- Generated sets, sums, differences, intersections, multiples and translates of ideals, and the canonical and the maximal
-- ideal have minimal lists.
use Rattle.std.proofs.Common.{ℕ, ◌<◌, List, length}
use Rattle.std.specs.Prelude.{ℤ}
use Rattle.sg_defs.specs.Membership.{IsNumericalSemigroup}
use Rattle.sg_defs.specs.Ideals.{IsIdealMember, IsInSum, IsInDifference, IsInMultiple, IsInTranslate, IsInCanonical, IsInMaximal}
use Rattle.sg_ideal.specs.Value.{GeneratesIdeal, IsInBoth}
use Rattle.sg_laws_ideals.proofs.IdealsExist.{ideal-exists}
use Rattle.sg_laws_ideals.proofs.IdealSets.{generated-set, sum-set, both-set, difference-set, multiple-set, translate-set}
use Rattle.sg_laws_ideals.proofs.OwnSets.{canonical-set, maximal-set}

-- what integers generate
pub generated-exists : (G : List ℕ) → IsNumericalSemigroup G → (zs : List ℤ) → 0 < length zs → (I : List ℤ) × GeneratesIdeal G (IsIdealMember G zs) I
generated-exists G num zs l = ideal-exists G num (IsIdealMember G zs) (generated-set G zs l)

-- a sum
pub sum-exists : (G : List ℕ) → IsNumericalSemigroup G → (I J : List ℤ) → 0 < length I → 0 < length J → (K : List ℤ) × GeneratesIdeal G (IsInSum (IsIdealMember G I) (IsIdealMember G J)) K
sum-exists G num I J l m = ideal-exists G num (IsInSum (IsIdealMember G I) (IsIdealMember G J))
    (sum-set G (IsIdealMember G I) (IsIdealMember G J) (generated-set G I l) (generated-set G J m))

-- a difference
pub difference-exists : (G : List ℕ) → IsNumericalSemigroup G → (I J : List ℤ) → 0 < length I → 0 < length J → (K : List ℤ) × GeneratesIdeal G (IsInDifference (IsIdealMember G I) (IsIdealMember G J)) K
difference-exists G num I J l m = ideal-exists G num (IsInDifference (IsIdealMember G I) (IsIdealMember G J)) (difference-set G (IsIdealMember G I) J (generated-set G I l) num m)

-- an intersection
pub both-exists : (G : List ℕ) → IsNumericalSemigroup G → (I J : List ℤ) → 0 < length I → 0 < length J → (K : List ℤ) × GeneratesIdeal G (IsInBoth (IsIdealMember G I) (IsIdealMember G J)) K
both-exists G num I J l m = ideal-exists G num (IsInBoth (IsIdealMember G I) (IsIdealMember G J))
    (both-set G (IsIdealMember G I) (IsIdealMember G J) (generated-set G I l) (generated-set G J m) num)

-- the sums of k members
pub multiple-exists : (G : List ℕ) → IsNumericalSemigroup G → (I : List ℤ) (k : ℕ) → 0 < length I → 0 < k → (K : List ℤ) × GeneratesIdeal G (IsInMultiple k (IsIdealMember G I)) K
multiple-exists G num I k l m = ideal-exists G num (IsInMultiple k (IsIdealMember G I)) (multiple-set G (IsIdealMember G I) (generated-set G I l) k m)

-- a translate
pub translate-exists : (G : List ℕ) → IsNumericalSemigroup G → (I : List ℤ) (x : ℤ) → 0 < length I → (K : List ℤ) × GeneratesIdeal G (IsInTranslate x (IsIdealMember G I)) K
translate-exists G num I x l = ideal-exists G num (IsInTranslate x (IsIdealMember G I)) (translate-set G (IsIdealMember G I) (generated-set G I l) x)

-- the canonical ideal
pub canonical-exists : (G : List ℕ) → IsNumericalSemigroup G → (K : List ℤ) × GeneratesIdeal G (IsInCanonical G) K
canonical-exists G num = ideal-exists G num (IsInCanonical G) (canonical-set G num)

-- the maximal ideal
pub maximal-exists : (G : List ℕ) → IsNumericalSemigroup G → (K : List ℤ) × GeneratesIdeal G (IsInMaximal G) K
maximal-exists G num = ideal-exists G num (IsInMaximal G) (maximal-set G num)
