use Rattle.std.proofs.Common.{ℕ, List, subst}
use Rattle.sg_defs.specs.Membership.{IsFactorization}
use Rattle.sg_nonunique.specs.Deltas.{IsMinDelta}
use Rattle.sg_degrees.proofs.least_delta.min_delta.Goals as goal

pub returns : goal.returns
returns c = subst (λ (G : List ℕ). IsMinDelta (IsFactorization G) c.min_delta_of.result) c.generators.ensures.same c.min_delta_of.ensures
