-- How far the entries of a table lie apart.
use Rattle.std.specs.Prelude.{ℕ, ◌+◌, ◌<◌, ◌≤◌, List, length, slice_index}

-- no entry exceeds another, but entry 0, by more than s
abbrev pub IsSpread : List ℕ → ℕ → Type 0
IsSpread t s = (i j : ℕ) → 0 < i → i < length t → j < length t → slice_index t j ≤ slice_index t i + s
