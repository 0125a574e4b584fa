use Rattle.sg_laws_invariants.proofs.SemigroupDecisions.{semigroup-decided}
use Rattle.sg_laws_invariants.proofs.laws.numerical_semigroups_are_decided.Goals as goal

pub returns : goal.returns
returns c = semigroup-decided
