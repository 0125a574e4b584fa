use Rattle.std.proofs.Common.{slice_index}
use Rattle.sg_invar.specs.Maximal.{Collects}
use Rattle.sg_invar.proofs.pseudo.maximal_entries.Given as goal

abbrev pub invariant-loop-i : goal.invariant-loop-i
invariant-loop-i l = Collects l.table (slice_index l.table 0) l.i l.maximal.items
