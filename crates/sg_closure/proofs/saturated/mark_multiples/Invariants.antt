use Rattle.sg_closure.proofs.SaturationLemmas.{IsSifted}
use Rattle.sg_closure.proofs.saturated.mark_multiples.Given as goal

abbrev pub invariant-loop-n : goal.invariant-loop-n
invariant-loop-n l = IsSifted l.table l.initial.marks l.marks l.divisor l.n
