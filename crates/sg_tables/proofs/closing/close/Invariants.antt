use Rattle.std.proofs.Common.{sum}
use Rattle.sg_tables.specs.Found.{AreFound}
use Rattle.sg_tables.proofs.closing.close.Given as goal

abbrev pub invariant-rounds : goal.invariant-rounds
invariant-rounds l = AreFound l.generators l.table l.summands

abbrev pub decreases-rounds : goal.decreases-rounds
decreases-rounds l = sum l.table
