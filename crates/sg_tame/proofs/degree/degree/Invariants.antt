use Rattle.std.proofs.Common.{ℕ, ◌<◌}
use Rattle.sg_defs.specs.Membership.{IsFactorization}
use Rattle.sg_nonunique.specs.Counts.{Exceeds}
use Rattle.sg_tame.specs.Nearest.{AreNearBy, IsLeastFrom}
use Rattle.sg_tame.specs.Needed.{IsNeeded}
use Rattle.sg_tame.specs.declared.limits.TheConstants.{COMPARED_LIMIT}
use Rattle.sg_tame.proofs.degree.degree.Given as goal

abbrev pub invariant-loop-v : goal.invariant-loop-v
invariant-loop-v l = record {
  degree : IsLeastFrom 0 (λ N. (u : ℕ) → u < l.v → AreNearBy l.t u N) l.greatest;
  few : (u : ℕ) → u < l.v → IsNeeded l.t u → Exceeds (IsFactorization l.t u) COMPARED_LIMIT → ⊥;
}
