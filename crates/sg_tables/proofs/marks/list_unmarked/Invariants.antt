use Rattle.sg_tables.proofs.FrontLemmas.{IsFront}
use Rattle.sg_tables.proofs.marks.list_unmarked.Given as goal

abbrev pub invariant-loop-place : goal.invariant-loop-place
invariant-loop-place l = IsFront l.generators l.minimal l.place
