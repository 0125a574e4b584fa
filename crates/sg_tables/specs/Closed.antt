-- When a list of classes is closed under a number.
use Rattle.std.specs.Prelude.{ℕ, ◌+◌, ◌%◌, ◌<◌, ◌≤◌, List, length, slice_index, slice_set, Contains}
use Rattle.std.specs.List.Sorted.{IsStrictlyIncreasing}

-- g leads from no entry to a greater one than their sum
abbrev pub IsClosedUnder : List ℕ → ℕ → Type 0
IsClosedUnder t g = (i : ℕ) → i < length t → slice_index t ((i + g) % length t) ≤ slice_index t i + g

-- D lists the modulus and the other entries, ascending
pub record AreClassGenerators (t D : List ℕ) : Type 0 where
  pub ascending : IsStrictlyIncreasing D
  pub keeps : (x : ℕ) → Contains (slice_set t 0 (length t)) x → Contains D x
  pub adds_none : (x : ℕ) → Contains D x → Contains (slice_set t 0 (length t)) x
