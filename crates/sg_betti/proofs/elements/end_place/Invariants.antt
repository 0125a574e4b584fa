use Rattle.sg_betti.specs.Sums.{IsFree}
use Rattle.sg_betti.proofs.elements.end_place.Given as goal

abbrev pub invariant-loop-place : goal.invariant-loop-place
invariant-loop-place l = IsFree l.t l.rest l.place
