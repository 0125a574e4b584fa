use Rattle.std.proofs.Common.{◌≡◌, ℕ, ◌<◌, ◌↔◌, length, slice_index}
use Rattle.sg_closure.specs.Marks.{IsIn}
use Rattle.sg_closure.specs.Differences.{IsShifted}
use Rattle.sg_closure.proofs.med.shifted_marks.Given as goal

abbrev pub invariant-loop-n : goal.invariant-loop-n
invariant-loop-n l = record {
  long : length l.marks.items ≡ l.n;
  same : (k : ℕ) → k < l.n → IsIn l.marks.items k ↔ IsShifted l.differences (slice_index l.table 0) k;
}
