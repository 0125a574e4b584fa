use Rattle.std.proofs.Common.{ℕ, ◌<◌, ◌≤◌, slice_index}
use Rattle.std.specs.Prelude.{Contains}
use Rattle.sg_classes.proofs.entries.greatest.Given as goal

abbrev pub invariant-loop-entry : goal.invariant-loop-entry
invariant-loop-entry l = record {
  listed : Contains l.entries l.found;
  above : (k : ℕ) → k < l.entry-index → slice_index l.entries k ≤ l.found;
}
