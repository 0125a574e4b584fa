use Rattle.sg_irred.specs.Cover.{IsCoverList}
use Rattle.sg_irred.proofs.cover_of.cover_list.Given as goal

abbrev pub invariant-loop-i : goal.invariant-loop-i
invariant-loop-i l = IsCoverList l.table l.h l.i l.list.items
