-- Sums of coins, each of which is there as often as wanted: a vector says how often each is taken.
use Rattle.std.specs.Prelude.{ℕ, ◌<◌, ◌≤◌, ◌↔◌, List, length, slice_index, sum}
use Rattle.sg_defs.specs.Membership.{IsFactorization}
use Rattle.sg_factor.specs.declared.coins.TheConstants.{NO_SUM}

-- x is a sum of at most l coins
abbrev pub IsSumWithin : List ℕ → ℕ → ℕ → Type 0
IsSumWithin D x l = (z : List ℕ) × IsFactorization D x z × (sum z ≤ l)

-- n is the least number of coins with the sum x, or is too great where there are none
pub record IsLeastCount (D : List ℕ) (x n : ℕ) : Type 0 where
  pub within : (l : ℕ) → l < NO_SUM → (n ≤ l) ↔ IsSumWithin D x l
  pub bounded : n ≤ NO_SUM

-- each entry is the least number for its place
pub record AreLeastCounts (D t : List ℕ) : Type 0 where
  pub each : (x : ℕ) → x < length t → IsLeastCount D x (slice_index t x)
