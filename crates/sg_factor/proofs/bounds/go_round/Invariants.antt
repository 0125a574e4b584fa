use Rattle.sg_factor.specs.Bounds.{AreLowered}
use Rattle.sg_factor.proofs.bounds.go_round.Given as goal

abbrev pub invariant-loop-start : goal.invariant-loop-start
invariant-loop-start l = AreLowered l.fn.table l.table
