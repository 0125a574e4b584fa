use Rattle.std.proofs.Common.{◌-◌, ◌≤◌, length, drop}
use Rattle.std.specs.Prelude.{slice_index, EachIndex}
use Rattle.sg_factor.specs.Coins.{AreLeastCounts}
use Rattle.sg_factor.specs.declared.coins.TheConstants.{NO_SUM}
use Rattle.sg_factor.proofs.coins.fill.Given as goal

abbrev pub invariant-loop-step : goal.invariant-loop-step
invariant-loop-step l = record {
  bounded : EachIndex l.table (λ x. slice_index l.table x ≤ NO_SUM);
  counts : AreLeastCounts (drop (length l.coins - l.step) l.coins) l.table;
}
