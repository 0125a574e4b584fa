use Rattle.std.proofs.Common.{ℕ, ◌<◌, ◌↔◌, slice_index}
use Rattle.std.specs.Int.{◌∣◌}
use Rattle.sg_glue.proofs.parts.common_divisor.Given as goal

-- what divides the divisor so far divides the entries so far, and the other way round
abbrev pub invariant-loop-entry : goal.invariant-loop-entry
invariant-loop-entry l = (d : ℕ) → (d ∣ l.divisor) ↔ ((k : ℕ) → k < l.entry-index → d ∣ slice_index l.entries k)
