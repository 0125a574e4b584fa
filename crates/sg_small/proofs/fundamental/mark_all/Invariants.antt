use Rattle.std.proofs.Common.{◌≡◌, ℕ, ◌<◌, slice_index, length}
use Rattle.sg_small.specs.Fundamental.{IsMarked}
use Rattle.sg_small.proofs.fundamental.mark_all.Given as goal

abbrev pub invariant-loop-entry : goal.invariant-loop-entry
invariant-loop-entry l = record {
  marked : (k : ℕ) → k < l.entry-index → IsMarked l.marks (slice_index l.list k);
  listed : (x : ℕ) → IsMarked l.marks x → (k : ℕ) × (k < length l.list) × (slice_index l.list k ≡ x);
}
