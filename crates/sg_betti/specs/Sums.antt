-- Sums of a number and a later generator.
use Rattle.std.specs.Prelude.{◌≡◌, ℕ, ◌+◌, ◌<◌, List, length, slice_index}
use Rattle.sg_defs.specs.Membership.{IsFactorization}
use Rattle.sg_laws_families.specs.PlaceGraph.{IsVertex}

-- n is the sum of a number and one of the generators behind the first, below place i
abbrev pub IsSumBelow : List ℕ → ℕ → ℕ → ℕ → Type 0
IsSumBelow G rest i n = (j : ℕ) × (0 < j) × (j < i) × (n ≡ rest + slice_index G j)

-- between the first generator and that at place j none can be taken from the number while an element is left
abbrev pub IsFree : List ℕ → ℕ → ℕ → Type 0
IsFree G rest j = (i : ℕ) → 0 < i → i < j → ¬ IsVertex (IsFactorization G rest) i

-- n is the sum of a number and one of the generators behind the first, up to the first of them that can be taken from it
abbrev pub IsFreeSum : List ℕ → ℕ → ℕ → Type 0
IsFreeSum G rest n = (j : ℕ) × (0 < j) × (j < length G) × IsFree G rest j × (n ≡ rest + slice_index G j)
