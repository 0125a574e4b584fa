use Rattle.std.proofs.Common.{◌-◌, ℕ, ◌<◌, ◌≤◌}
use Rattle.sg_tables.specs.Modulus.{IsMet}
use Rattle.sg_tables.proofs.modulus.rise.Given as goal

abbrev pub invariant-loop-step : goal.invariant-loop-step
invariant-loop-step l = record {
  some : 0 < l.step;
  below : l.low ≤ l.top;
  not_before : (j : ℕ) → j < l.low → IsMet l.apery l.modulus l.class j → ⊥;
}

abbrev pub decreases-loop-step : goal.decreases-loop-step
decreases-loop-step l = l.top - l.low
