use Rattle.std.proofs.Common.{◌≡◌, ℕ, ◌+◌, ◌-◌, ◌%◌, ◌<◌, ◌≤◌, max, length, slice_index}
use Rattle.sg_ideal.proofs.classes.narrow.Given as goal

abbrev pub invariant-loop-class : goal.invariant-loop-class
invariant-loop-class l = record {
  done : (k : ℕ) → k < l.class → slice_index l.entries k ≡ max (slice_index l.initial.entries k) (slice_index l.other ((k + l.ahead) % length l.other) - l.by);
  rest : (k : ℕ) → l.class ≤ k → slice_index l.entries k ≡ slice_index l.initial.entries k;
}
