use Rattle.std.proofs.Common.{◌≤◌}
use Rattle.sg_tables.proofs.steps.probe.Given as goal

abbrev pub invariant-loop-place : goal.invariant-loop-place
invariant-loop-place l = l.found ≤ l.place
