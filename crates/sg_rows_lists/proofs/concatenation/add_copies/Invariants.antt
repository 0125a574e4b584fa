use Rattle.std.proofs.Common.{◌≡◌, drop}
use Rattle.sg_value.specs.Plain.{contents_of_all}
use Rattle.sg_value.specs.Data.{join}
use Rattle.sg_rows_lists.proofs.concatenation.add_copies.Given as goal

-- the copies so far and the entries to come are the first copies and all entries
abbrev pub invariant-loop-entry : goal.invariant-loop-entry
invariant-loop-entry l = join (contents_of_all l.copies.items) (contents_of_all (drop l.entry-index l.entries)) ≡ join (contents_of_all l.fn.copies.items) (contents_of_all l.entries)
