-- Plain data with the places of its things.
use Rattle.std.specs.Prelude.{ℕ}
use Rattle.std.specs.Coded.{Coded, coded_ℕ}
use Rattle.sg_value.specs.Data.{Kind, Data, Items}
use Rattle.sg_value.specs.Code.{coded_items}

-- a thing by its place in a store
abbrev pub Places : Kind → Type 0
Places k = ℕ

-- a value as it is stored
abbrev pub Stored : Type 0
Stored = Data Places

-- the entries of a list
abbrev pub Entries : Type 0
Entries = Items Places

abbrev pub entries_code : Coded Entries
entries_code = coded_items (λ k. coded_ℕ)
