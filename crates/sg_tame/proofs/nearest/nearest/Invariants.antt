use Rattle.sg_tame.specs.declared.nearest.TheConstants.{FAR}
use Rattle.sg_tame.proofs.NearestLemmas.{IsLeastBefore}
use Rattle.sg_tame.proofs.nearest.nearest.Given as goal

abbrev pub invariant-loop-other : goal.invariant-loop-other
invariant-loop-other l = IsLeastBefore FAR l.rows l.from l.place l.other l.least
