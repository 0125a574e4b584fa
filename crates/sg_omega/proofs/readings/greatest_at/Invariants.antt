use Rattle.std.proofs.Common.{◌+◌, ◌<◌, get_or, take}
use Rattle.sg_omega.proofs.ReadingLemmas.{IsGreatestOver}
use Rattle.sg_omega.proofs.readings.greatest_at.Given as goal

abbrev pub invariant-loop-n : goal.invariant-loop-n
invariant-loop-n l = IsGreatestOver (λ n k. k < get_or l.table (n + l.v) 0) (take l.n-index l.wanted) l.greatest
