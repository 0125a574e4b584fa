use Rattle.std.proofs.Common.{◌≡◌, ℕ, ◌+◌, ◌%◌, ◌<◌, ◌≤◌, min, length, slice_index}
use Rattle.sg_ideal.proofs.classes.extend.Given as goal

abbrev pub invariant-loop-class : goal.invariant-loop-class
invariant-loop-class l = record {
  done : (k : ℕ) → k < l.class → slice_index l.entries k ≡ min (slice_index l.initial.entries k) (l.by + slice_index l.other ((k + l.back) % length l.other));
  rest : (k : ℕ) → l.class ≤ k → slice_index l.entries k ≡ slice_index l.initial.entries k;
}
