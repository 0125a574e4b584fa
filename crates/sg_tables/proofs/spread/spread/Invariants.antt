use Rattle.std.proofs.Common.{ℕ, ◌<◌, ◌≤◌, slice_index}
use Rattle.sg_tables.proofs.spread.spread.Given as goal

abbrev pub invariant-loop-class : goal.invariant-loop-class
invariant-loop-class l = record {
  low : (k : ℕ) → k < l.class → 0 < k → l.least ≤ slice_index l.table k;
  high : (k : ℕ) → k < l.class → slice_index l.table k ≤ l.greatest;
}
