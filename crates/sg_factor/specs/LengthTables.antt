-- Tables of lengths: what they stand for and what they keep.
use Rattle.std.specs.Prelude.{ℕ, zero, suc, ◌-◌, ◌*◌, ◌<◌, ◌≤◌, List, length, map, drop, slice_index}
use Rattle.std.specs.List.Sorted.{IsStrictlyIncreasing}
use Rattle.sg_defs.specs.Membership.{IsFactorization, IsMember, IsNumericalSemigroup}
use Rattle.sg_nonunique.specs.Factorizations.{IsLengthIn}
use Rattle.sg_factor.specs.Coins.{AreLeastCounts}
use Rattle.sg_factor.specs.declared.limits.TheConstants.{LENGTH_LIMIT}

-- the generators, and the greatest number whose lengths are told
pub record LengthReach : Type 0 where
  pub generators : List ℕ
  pub upto : ℕ

-- by how much the other generators exceed the first
abbrev pub differences_of : List ℕ → List ℕ
differences_of G = map (λ g. g - slice_index G 0) (drop 1 G)

-- the least numbers of differences, for each rest that can be left by so many times the first generator
pub record IsLengthTable (G : List ℕ) (upto : ℕ) (counts : List ℕ) : Type 0 where
  pub semigroup : IsNumericalSemigroup G
  pub ascending : IsStrictlyIncreasing G
  pub small : upto ≤ LENGTH_LIMIT
  pub sums : AreLeastCounts (differences_of G) counts
  pub long : (n l : ℕ) → n ≤ upto → l * slice_index G 0 ≤ n → n ≤ l * slice_index G (length G - 1) → n - l * slice_index G 0 < length counts

-- 0 where n is no member, and else one more than the least length of n
abbrev pub IsLeastLength : List ℕ → ℕ → ℕ → Type 0
IsLeastLength G n zero = IsMember G n → ⊥
IsLeastLength G n (suc k) = IsLengthIn (IsFactorization G n) k × ((l : ℕ) → IsLengthIn (IsFactorization G n) l → k ≤ l)
