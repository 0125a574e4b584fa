use Rattle.std.proofs.Common.{◌≡◌, ◌-◌, length, drop}
use Rattle.sg_glue.specs.Sums.{TellsSums}
use Rattle.sg_glue.proofs.sums.fill.Given as goal

abbrev pub invariant-loop-step : goal.invariant-loop-step
invariant-loop-step l = record {
  long : length l.table ≡ length l.fn.table;
  sums : TellsSums (drop (length l.parts - l.step) l.parts) l.table;
}
