use Rattle.std.proofs.Common.{◌≡◌, ℕ, ◌*◌, ◌%◌, ◌<◌, ◌≤◌, ◌↔◌, length, slice_index}
use Rattle.sg_classes.specs.Classes.{IsAboveEntry}
use Rattle.sg_apery.proofs.derived.quotient_list.Given as goal

abbrev pub invariant-loop-class : goal.invariant-loop-class
invariant-loop-class l = record {
  long : length l.list.items ≡ l.class;
  residue : (i : ℕ) → i < l.class → slice_index l.list.items i % length l.apery ≡ i;
  above : (i x : ℕ) → i < l.class → x % length l.apery ≡ i → (slice_index l.list.items i ≤ x) ↔ IsAboveEntry l.apery (l.d * x);
}
