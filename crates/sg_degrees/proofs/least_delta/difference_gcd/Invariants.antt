use Rattle.sg_degrees.proofs.LeastLemmas.{IsGcdBelow}
use Rattle.sg_degrees.proofs.least_delta.difference_gcd.Given as goal

abbrev pub invariant-loop-place : goal.invariant-loop-place
invariant-loop-place l = IsGcdBelow l.generators l.place l.common
