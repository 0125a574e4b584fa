-- Vectors with the number at one place changed.
use Rattle.std.specs.Prelude.{ℕ, ◌+◌, ◌-◌, List, set, replicate, slice_index}

-- one more at place i
abbrev pub raise : List ℕ → ℕ → List ℕ
raise x i = set x i (slice_index x i + 1)

-- one less at place i, where it is positive
abbrev pub lower : List ℕ → ℕ → List ℕ
lower x i = set x i (slice_index x i - 1)

-- the j-th of k unit vectors
abbrev pub unit : ℕ → ℕ → List ℕ
unit k j = set (replicate k 0) j 1
