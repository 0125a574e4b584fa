use Rattle.std.proofs.Common.{ℕ, ◌<◌, ◌≤◌, slice_index}
use Rattle.sg_classes.specs.declared.limits.TheConstants.{FUNDAMENTAL_GAP_LIMIT}
use Rattle.sg_small.proofs.fundamental.are_within.Given as goal

abbrev pub invariant-loop-entry : goal.invariant-loop-entry
invariant-loop-entry l = (k : ℕ) → k < l.entry-index → slice_index l.list k ≤ FUNDAMENTAL_GAP_LIMIT
