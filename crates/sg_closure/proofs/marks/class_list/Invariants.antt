use Rattle.std.proofs.Common.{◌≡◌, ℕ, ◌<◌, length, slice_index}
use Rattle.sg_closure.specs.Marks.{IsLeastIn}
use Rattle.sg_closure.proofs.marks.class_list.Given as goal

abbrev pub invariant-loop-class : goal.invariant-loop-class
invariant-loop-class l = record {
  long : length l.list.items ≡ l.class;
  entries : (i : ℕ) → i < l.class → IsLeastIn l.marks l.modulus i (slice_index l.list.items i);
}
