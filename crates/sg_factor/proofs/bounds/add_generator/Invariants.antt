use Rattle.std.proofs.Common.{sum}
use Rattle.sg_factor.specs.Bounds.{AreLowered}
use Rattle.sg_factor.proofs.bounds.add_generator.Given as goal

abbrev pub invariant-loop : goal.invariant-loop
invariant-loop l = AreLowered l.fn.table l.table

abbrev pub decreases-loop : goal.decreases-loop
decreases-loop l = sum l.table
