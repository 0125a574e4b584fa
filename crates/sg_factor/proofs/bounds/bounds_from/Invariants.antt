use Rattle.sg_factor.proofs.BoundsLemmas.{AreBoundsSoFar}
use Rattle.sg_factor.proofs.bounds.bounds_from.Given as goal

abbrev pub invariant-loop-count : goal.invariant-loop-count
invariant-loop-count l = AreBoundsSoFar l.generators l.count l.rows l.table
