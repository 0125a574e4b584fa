use Rattle.std.proofs.Common.{◌≡◌, ℕ, ◌<◌, ◌≤◌, length, slice_index}
use Rattle.sg_ideal.proofs.classes.least_entry.Given as goal

abbrev pub invariant-loop-entry : goal.invariant-loop-entry
invariant-loop-entry l = record {
  listed : (k : ℕ) × (k < length l.entries) × (slice_index l.entries k ≡ l.least);
  below : (k : ℕ) → k < l.entry-index → l.least ≤ slice_index l.entries k;
}
