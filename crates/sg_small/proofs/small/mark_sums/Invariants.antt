use Rattle.std.proofs.Common.{ℕ, ◌+◌, ◌<◌, ◌≤◌, slice_index}
use Rattle.std.specs.Prelude.{Contains}
use Rattle.sg_small.specs.Small.{AreMarked}
use Rattle.sg_small.proofs.small.mark_sums.Given as goal

abbrev pub invariant-loop-place : goal.invariant-loop-place
invariant-loop-place l = record {
  marks : AreMarked l.list l.marked;
  inside : l.other + l.which ≤ l.place;
  above_zero : 1 ≤ l.other;
  matched : (j : ℕ) → j < l.other → Contains l.list (slice_index l.list l.which + slice_index l.list j);
  below : (q : ℕ) → q < l.place → slice_index l.list q < slice_index l.list l.which + slice_index l.list l.other;
}
