use Rattle.sg_closure.proofs.StepLemmas.{IsMarking}
use Rattle.sg_closure.proofs.arf.mark_steps.Given as goal

abbrev pub invariant-loop-n : goal.invariant-loop-n
invariant-loop-n l = IsMarking l.initial.marks l.marks l.last l.n
