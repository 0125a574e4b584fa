-- Tables of names.
use Rattle.std.specs.Prelude.{ℕ, List}
use Rattle.sg_rows.specs.declared.names.Named.{Named}

-- what an entry of a table of names says
abbrev pub entry_of : {C : Type 0} → Named C → List ℕ × C
entry_of entry = (entry.0.now, entry.1)
