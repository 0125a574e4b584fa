use Rattle.std.proofs.Common.{◌≡◌, Some, drop}
use Rattle.sg_value.specs.Data.{Items}
use Rattle.sg_value.specs.Plain.{contents_of_all, Places}
use Rattle.sg_value.specs.Data.{join}
use Rattle.sg_rows_lists.specs.Concatenations.{concatenated}
use Rattle.sg_rows_lists.proofs.concatenation.copies_of_all.Given as goal

-- the copies so far and the entries of the lists to come are the entries of all lists
abbrev pub invariant-loop-list : goal.invariant-loop-list
invariant-loop-list l = (ds : Items Places) → concatenated (contents_of_all l.lists) ≡ Some ds → (es : Items Places) × (concatenated (contents_of_all (drop l.list-index l.lists)) ≡ Some es) × (join (contents_of_all l.copies.items) es ≡ ds)
