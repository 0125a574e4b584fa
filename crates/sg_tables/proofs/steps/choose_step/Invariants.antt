use Rattle.std.proofs.Common.{◌<◌}
use Rattle.sg_tables.proofs.steps.choose_step.Given as goal

abbrev pub invariant-loop-base : goal.invariant-loop-base
invariant-loop-base l = 0 < l.best.step
