-- Complete intersections: as few relations as there can be.
use Rattle.std.specs.Prelude.{◌≡◌, ℕ, ◌+◌, ◌<◌, List, length}
use Rattle.sg_defs.specs.Membership.{IsFactorization}
use Rattle.sg_nonunique.specs.Presentations.{IsCanonical, Relation}

-- the canonical presentation has one relation less than there are minimal generators
pub record IsCompleteIntersection (G : List ℕ) : Type 0 where
  pub relations : List (Relation ℕ)
  pub canonical : IsCanonical (◌<◌) (IsFactorization G) relations
  pub count : length relations + 1 ≡ length G
