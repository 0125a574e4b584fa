use Rattle.std.proofs.Common.{ℕ, ◌<◌, get_or}
use Rattle.sg_tame.specs.Needed.{IsNeededAt}
use Rattle.sg_tame.proofs.needed.is_needed.Given as goal

abbrev pub invariant-loop-place : goal.invariant-loop-place
invariant-loop-place l = (j : ℕ) → j < l.place → IsNeededAt l.t l.v (get_or l.t j 0) → ⊥
