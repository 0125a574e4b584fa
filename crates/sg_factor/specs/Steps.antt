-- Differences of neighbours in a list.
use Rattle.std.specs.Prelude.{◌≡◌, ℕ, ◌+◌, ◌<◌, List, length, slice_index}

-- some entry of the list is d more than the one before it
abbrev pub IsStepOf : List ℕ → ℕ → Type 0
IsStepOf l d = (k : ℕ) × (k + 1 < length l) × (slice_index l k + d ≡ slice_index l (k + 1))
