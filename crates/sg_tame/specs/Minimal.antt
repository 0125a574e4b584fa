-- The tame degree by minimal vectors.
use Rattle.std.specs.Prelude.{◌≡◌, ℕ, ◌<◌, ◌≤◌, List, length, slice_index}
use Rattle.sg_defs.specs.Membership.{IsFactorization}
use Rattle.sg_defs.specs.Vectors.{value_of, distance}
use Rattle.sg_omega.specs.Minimal.{IsMinimalAbove}

-- d is the least distance from z to a vector of the same value with a positive number at place i
pub record IsLeastDistance (G : List ℕ) (i : ℕ) (z : List ℕ) (d : ℕ) : Type 0 where
  pub reached : (y : List ℕ) × IsFactorization G (value_of G z) y × (0 < slice_index y i) × (distance z y ≡ d)
  pub least : (y : List ℕ) → IsFactorization G (value_of G z) y → 0 < slice_index y i → d ≤ distance z y

-- N is the greatest of these for the vectors that are minimal above generator i, over all i
pub record IsGreatestLeastDistance (G : List ℕ) (N : ℕ) : Type 0 where
  pub bound : (i d : ℕ) (z : List ℕ) → i < length G → IsMinimalAbove G (slice_index G i) z → IsLeastDistance G i z d → d ≤ N
  pub reached : (i : ℕ) × (i < length G) × ((z : List ℕ) × IsMinimalAbove G (slice_index G i) z × IsLeastDistance G i z N)
