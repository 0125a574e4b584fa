use Rattle.std.proofs.Common.{◌≡◌, ℕ, ◌<◌, max, length, slice_index}
use Rattle.sg_apery.proofs.derived.greater_entries.Given as goal

abbrev pub invariant-loop-class : goal.invariant-loop-class
invariant-loop-class l = record {
  long : length l.list.items ≡ l.class;
  entries : (i : ℕ) → i < l.class → slice_index l.list.items i ≡ max (slice_index l.first i) (slice_index l.second i);
}
