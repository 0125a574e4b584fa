use Rattle.sg_classes.specs.Classes.{IsLoweredBy}
use Rattle.sg_classes.proofs.classes.lower_all.Given as goal

abbrev pub invariant-loop-place : goal.invariant-loop-place
invariant-loop-place l = IsLoweredBy l.list l.fn.table l.table l.place
