use Rattle.std.proofs.Common.{◌<◌, ◌≤◌}
use Rattle.sg_tables.specs.Modulus.{IsMet}
use Rattle.sg_tables.proofs.modulus.fall.Given as goal

abbrev pub invariant-loop-step : goal.invariant-loop-step
invariant-loop-step l = record {
  some : 0 < l.step;
  within : l.high ≤ l.top;
  met : IsMet l.apery l.modulus l.class l.high;
}

abbrev pub decreases-loop-step : goal.decreases-loop-step
decreases-loop-step l = l.high
