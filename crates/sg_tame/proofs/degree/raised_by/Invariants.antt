use Rattle.std.proofs.Common.{ℕ, ◌<◌}
use Rattle.sg_tame.specs.Nearest.{AreNearAt, IsLeastFrom}
use Rattle.sg_tame.proofs.degree.raised_by.Given as goal

abbrev pub invariant-loop-place : goal.invariant-loop-place
invariant-loop-place l = IsLeastFrom l.enough (λ N. (i : ℕ) → i < l.place → AreNearAt l.t l.v i N) l.greatest
