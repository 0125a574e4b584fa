-- The tame degree of a numerical semigroup.
use Rattle.std.specs.Prelude.{ℕ, ◌<◌, ◌≤◌, List, length, slice_index}
use Rattle.sg_defs.specs.Membership.{IsFactorization}
use Rattle.sg_defs.specs.Vectors.{distance}
use Rattle.sg_omega.specs.Lengths.{IsLowered}

-- some factorization of n with a positive number at place i is at distance at most N from z
abbrev pub IsNear : List ℕ → ℕ → ℕ → List ℕ → ℕ → Type 0
IsNear G n i z N = (y : List ℕ) × IsFactorization G n y × (0 < slice_index y i) × (distance z y ≤ N)

-- wherever a generator can be taken away from n while a member is left, this is so from each factorization of n
abbrev pub IsTameBound : List ℕ → ℕ → Type 0
IsTameBound G N = (n i : ℕ) (z : List ℕ) → i < length G → IsLowered G n (slice_index G i) → IsFactorization G n z → IsNear G n i z N

-- the least such N
pub record IsTame (G : List ℕ) (N : ℕ) : Type 0 where
  pub bound : IsTameBound G N
  pub least : (N' : ℕ) → N' < N → IsTameBound G N' → ⊥
