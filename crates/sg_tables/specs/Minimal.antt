-- Which of given generators are needed.
use Rattle.std.specs.Prelude.{ℕ, ◌+◌, ◌-◌, ◌<◌, ◌≤◌, ◌⊎◌, List, length, slice_index, Contains}
use Rattle.std.specs.List.Sorted.{IsStrictlyIncreasing}
use Rattle.sg_classes.specs.Classes.{IsAboveEntry}

-- w is the sum of a number of M, at most its half, and of a number that is at least the entry of its class
abbrev pub IsSpare : List ℕ → List ℕ → ℕ → Type 0
IsSpare t M w = (h : ℕ) × Contains M h × (h + h ≤ w) × IsAboveEntry t (w - h)

-- w is the sum of the number of M at place p, at most its half, and of a number that is at least the entry of its class
pub record IsSummandAt (t M : List ℕ) (w p : ℕ) : Type 0 where
  pub inside : p < length M
  pub half : slice_index M p + slice_index M p ≤ w
  pub rest : IsAboveEntry t (w - slice_index M p)

-- the part of the first n entries that are not spare, and each of the other entries is above it
pub record IsPartOf (t D M : List ℕ) (n : ℕ) : Type 0 where
  pub ascending : IsStrictlyIncreasing M
  pub before : (k i : ℕ) → k < length M → n ≤ i → i < length D → slice_index M k < slice_index D i
  pub kept : (k : ℕ) → k < length M → Contains D (slice_index M k) × (IsSpare t M (slice_index M k) → ⊥)
  pub whole : (k : ℕ) → k < n → Contains M (slice_index D k) ⊎ IsSpare t M (slice_index D k)
