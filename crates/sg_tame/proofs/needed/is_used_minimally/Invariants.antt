use Rattle.std.proofs.Common.{ℕ, ◌<◌, get_or}
use Rattle.sg_omega.specs.Lengths.{IsInAperySet}
use Rattle.sg_tame.proofs.needed.is_used_minimally.Given as goal

abbrev pub invariant-loop-place : goal.invariant-loop-place
invariant-loop-place l = (j : ℕ) → j < l.place → 0 < get_or l.vector j 0 → IsInAperySet l.t l.member (get_or l.t j 0)
