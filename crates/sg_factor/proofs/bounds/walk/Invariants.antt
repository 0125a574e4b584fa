use Rattle.std.proofs.Common.{◌<◌, length}
use Rattle.sg_factor.specs.Bounds.{AreLowered}
use Rattle.sg_factor.proofs.bounds.walk.Given as goal

abbrev pub invariant-loop : goal.invariant-loop
invariant-loop l = record {
  lowered : AreLowered l.fn.table l.table;
  inside : l.at < length l.table;
}
