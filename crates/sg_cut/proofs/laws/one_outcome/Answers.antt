use Rattle.std.proofs.Common.{true, refl}
use Rattle.sg_cut.specs.declared.outcome.Piece.TheVariants.{Waiting}
use Rattle.sg_cut.proofs.Outcomes.{outcome_found, same_outcome}
use Rattle.sg_cut.proofs.laws.one_outcome.Goals as goal

pub returns-clause-some : goal.returns-clause-some
returns-clause-some c = λ bytes whole. let found = outcome_found bytes whole in (found.0, found.1)

pub returns-clause-unique : goal.returns-clause-unique
returns-clause-unique c = λ bytes whole piece other p o. same_outcome bytes whole piece other p o

pub returns-clause-not_waiting : goal.returns-clause-not_waiting
returns-clause-not_waiting c = λ bytes w.
    let found = outcome_found bytes true in found.2 refl (same_outcome bytes true found.0 Waiting found.1 w)
