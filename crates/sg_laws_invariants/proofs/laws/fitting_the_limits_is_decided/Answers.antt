use Rattle.sg_laws_invariants.proofs.SemigroupDecisions.{fit-decided}
use Rattle.sg_laws_invariants.proofs.laws.fitting_the_limits_is_decided.Goals as goal

pub returns : goal.returns
returns c = fit-decided
