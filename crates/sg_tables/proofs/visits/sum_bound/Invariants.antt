use Rattle.std.proofs.Common.{ℕ, ◌+◌, ◌<◌, ◌≤◌, length, slice_index}
use Rattle.sg_tables.specs.Found.{IsUnmarked}
use Rattle.sg_tables.proofs.visits.sum_bound.Given as goal

abbrev pub invariant-loop-generator : goal.invariant-loop-generator
invariant-loop-generator l = record {
  top : (i : ℕ) → i < length l.table → slice_index l.table i ≤ l.bound + length l.table;
  unmarked : (j : ℕ) → j < l.generator-index → IsUnmarked l.table l.summands (slice_index l.generators j) → slice_index l.generators j ≤ l.bound;
}
