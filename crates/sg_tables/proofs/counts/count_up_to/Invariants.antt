use Rattle.std.proofs.Common.{ℕ, ◌-◌, ◌<◌, ◌≤◌, length, slice_index}
use Rattle.sg_tables.proofs.counts.count_up_to.Given as goal

abbrev pub invariant-loop-low : goal.invariant-loop-low
invariant-loop-low l = record {
  ordered : l.low ≤ l.high;
  inside : l.high ≤ length l.entries;
  before : (k : ℕ) → k < l.low → slice_index l.entries k ≤ l.most;
  after : (k : ℕ) → l.high ≤ k → k < length l.entries → l.most < slice_index l.entries k;
}

abbrev pub decreases-loop-low : goal.decreases-loop-low
decreases-loop-low l = l.high - l.low
