use Rattle.std.proofs.Common.{◌≡◌, ℕ, ◌-◌, ◌<◌, length, slice_index_or, pos, ◌-ℤ◌}
use Rattle.sg_ideal.proofs.own.reflected.Given as goal

abbrev pub invariant-loop-place : goal.invariant-loop-place
invariant-loop-place l = record {
  long : length l.list ≡ l.place;
  entries : (k : ℕ) → k < l.place → slice_index_or l.list k (pos 0) ≡ l.highest -ℤ slice_index_or l.numbers (length l.numbers - 1 - k) (pos 0);
}
