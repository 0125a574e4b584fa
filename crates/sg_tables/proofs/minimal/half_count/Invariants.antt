use Rattle.std.proofs.Common.{ℕ, ◌+◌, ◌-◌, ◌<◌, ◌≤◌, length, slice_index}
use Rattle.sg_tables.proofs.minimal.half_count.Given as goal

abbrev pub invariant-loop-low : goal.invariant-loop-low
invariant-loop-low l = record {
  ordered : l.low ≤ l.high;
  inside : l.high ≤ length l.minimal;
  before : (k : ℕ) → k < l.low → slice_index l.minimal k + slice_index l.minimal k ≤ l.number;
  after : (k : ℕ) → l.high ≤ k → k < length l.minimal → l.number < slice_index l.minimal k + slice_index l.minimal k;
}

abbrev pub decreases-loop-low : goal.decreases-loop-low
decreases-loop-low l = l.high - l.low
