use Rattle.std.proofs.Common.{ℕ, ◌*◌, ◌<◌}
use Rattle.sg_small.specs.Fundamental.{IsMarked}
use Rattle.sg_small.proofs.fundamental.has_marked_multiple.Given as goal

abbrev pub invariant-loop-factor : goal.invariant-loop-factor
invariant-loop-factor l = (j : ℕ) → 0 < j → j < l.factor → IsMarked l.marks (j * l.divisor) → ⊥
