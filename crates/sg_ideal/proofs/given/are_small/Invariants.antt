use Rattle.std.proofs.Common.{ℕ, ◌<◌, slice_index_or, pos}
use Rattle.sg_lawful.specs.Generators.{IsSmall}
use Rattle.sg_ideal.proofs.given.are_small.Given as goal

abbrev pub invariant-loop-number : goal.invariant-loop-number
invariant-loop-number l = (k : ℕ) → k < l.number-index → IsSmall (slice_index_or l.numbers k (pos 0))
