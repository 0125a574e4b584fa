use Rattle.std.proofs.Common.{◌≡◌, ℕ, ◌<◌, length, slice_index}
use Rattle.sg_ideal.proofs.classes.naturals.Given as goal

abbrev pub invariant-loop-class : goal.invariant-loop-class
invariant-loop-class l = record {
  long : length l.list.items ≡ l.class;
  entries : (i : ℕ) → i < l.class → slice_index l.list.items i ≡ i;
}
