use Rattle.std.proofs.Common.{◌-◌, ℕ, ◌<◌, ◌≤◌}
use Rattle.sg_tables.specs.Modulus.{IsMet}
use Rattle.sg_tables.proofs.modulus.halve.Given as goal

abbrev pub invariant-loop-low : goal.invariant-loop-low
invariant-loop-low l = record {
  order : l.low ≤ l.high;
  within : l.high ≤ l.top;
  met : IsMet l.apery l.modulus l.class l.high;
  not_before : (j : ℕ) → j < l.low → IsMet l.apery l.modulus l.class j → ⊥;
}

abbrev pub decreases-loop-low : goal.decreases-loop-low
decreases-loop-low l = l.high - l.low
