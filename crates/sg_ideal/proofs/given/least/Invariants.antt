use Rattle.std.proofs.Common.{ℕ, ◌<◌, slice_index_or, pos}
use Rattle.std.specs.Prelude.{Contains, ◌≤ℤ◌}
use Rattle.sg_ideal.proofs.given.least.Given as goal

abbrev pub invariant-loop-number : goal.invariant-loop-number
invariant-loop-number l = record {
  listed : Contains l.numbers l.least;
  below : (k : ℕ) → k < l.number-index → l.least ≤ℤ slice_index_or l.numbers k (pos 0);
}
