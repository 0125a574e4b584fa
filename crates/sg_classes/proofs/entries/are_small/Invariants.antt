use Rattle.std.proofs.Common.{ℕ, ◌<◌, slice_index}
use Rattle.sg_classes.specs.declared.limits.TheConstants.{GENERATOR_LIMIT}
use Rattle.sg_classes.proofs.entries.are_small.Given as goal

abbrev pub invariant-loop-entry : goal.invariant-loop-entry
invariant-loop-entry l = (k : ℕ) → k < l.entry-index → slice_index l.entries k < GENERATOR_LIMIT
