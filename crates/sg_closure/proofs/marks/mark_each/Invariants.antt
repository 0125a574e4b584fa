use Rattle.std.proofs.Common.{◌≡◌, ℕ, ◌<◌, ◌↔◌, length, slice_index}
use Rattle.std.specs.Prelude.{◌⊎◌}
use Rattle.sg_closure.specs.Marks.{IsIn}
use Rattle.sg_closure.proofs.marks.mark_each.Given as goal

abbrev pub invariant-loop-n : goal.invariant-loop-n
invariant-loop-n l = record {
  long : length l.marks ≡ length l.initial.marks;
  marked : (k : ℕ) → IsIn l.marks k ↔ (IsIn l.initial.marks k ⊎ ((i : ℕ) × (i < l.n-index) × (slice_index l.numbers i ≡ k)));
}
