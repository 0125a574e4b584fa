-- Entries of lists by their places, and lists of integers in a row.
use Rattle.std.specs.Prelude.{ℕ, zero, suc, ℤ, pos, negsuc, ◌+ℤ◌, Option, Some, None}
use Rattle.sg_value.specs.Data.{Data, int, Items, none, item, Kind}

-- the entry at a place, counted from 1 on
abbrev pub entry_at : {H : Kind → Type 0} → Items H → ℕ → Option (Data H)
entry_at none n = None
entry_at (item d ds) zero = None
entry_at (item d ds) (suc zero) = Some d
entry_at (item d ds) (suc (suc n)) = entry_at ds (suc n)

abbrev pub entry_at_integer : {H : Kind → Type 0} → Items H → ℤ → Option (Data H)
entry_at_integer ds (pos n) = entry_at ds n
entry_at_integer ds (negsuc n) = None

abbrev pub as_natural : ℤ → Option ℕ
as_natural (pos n) = Some n
as_natural (negsuc n) = None

-- so many integers from the first on
abbrev pub integers_from : {H : Kind → Type 0} → ℤ → ℕ → Items H
integers_from z zero = none
integers_from z (suc n) = item (int z) (integers_from (z +ℤ pos 1) n)
