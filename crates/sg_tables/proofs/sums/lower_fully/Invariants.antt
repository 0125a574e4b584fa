use Rattle.std.proofs.Common.{sum}
use Rattle.sg_tables.specs.Sums.{IsLowered}
use Rattle.sg_tables.proofs.sums.lower_fully.Given as goal

abbrev pub invariant-loop : goal.invariant-loop
invariant-loop l = IsLowered l.fn.least l.least

abbrev pub decreases-loop : goal.decreases-loop
decreases-loop l = sum l.least
