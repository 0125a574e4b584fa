use Rattle.std.proofs.Common.{ℕ, ◌*◌, ◌<◌, length, slice_index}
use Rattle.sg_small.proofs.gaps.are_below_double.Given as goal

abbrev pub invariant-loop-gap : goal.invariant-loop-gap
invariant-loop-gap l = (k : ℕ) → k < l.gap-index → slice_index l.gaps k < 2 * length l.gaps
