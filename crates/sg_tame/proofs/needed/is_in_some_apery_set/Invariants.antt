use Rattle.std.proofs.Common.{ℕ, ◌<◌, get_or}
use Rattle.sg_omega.specs.Lengths.{IsLowered}
use Rattle.sg_tame.proofs.needed.is_in_some_apery_set.Given as goal

abbrev pub invariant-loop-place : goal.invariant-loop-place
invariant-loop-place l = (j : ℕ) → j < l.place → IsLowered l.t l.member (get_or l.t j 0)
