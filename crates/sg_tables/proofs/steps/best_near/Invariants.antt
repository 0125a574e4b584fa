use Rattle.std.proofs.Common.{◌<◌}
use Rattle.sg_tables.proofs.steps.best_near.Given as goal

abbrev pub invariant-loop-next : goal.invariant-loop-next
invariant-loop-next l = 0 < l.best.step
