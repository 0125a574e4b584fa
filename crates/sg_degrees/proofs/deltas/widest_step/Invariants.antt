use Rattle.sg_degrees.proofs.DeltaLemmas.{IsWidestBelow}
use Rattle.sg_degrees.proofs.deltas.widest_step.Given as goal

abbrev pub invariant-loop-place : goal.invariant-loop-place
invariant-loop-place l = IsWidestBelow l.lengths l.place l.widest
