use Rattle.std.proofs.Common.{◌≡◌, ℕ, ◌%◌, ◌<◌, ◌≤◌, length, slice_index}
use Rattle.sg_small.proofs.least.all_least_from.Given as goal

abbrev pub invariant-loop-class : goal.invariant-loop-class
invariant-loop-class l = record {
  long : length l.table.items ≡ l.class;
  residue : (i : ℕ) → i < l.class → slice_index l.table.items i % l.modulus ≡ i;
  above : (i : ℕ) → i < l.class → l.start ≤ slice_index l.table.items i;
  least : (i x : ℕ) → i < l.class → l.start ≤ x → x % l.modulus ≡ i → slice_index l.table.items i ≤ x;
}
