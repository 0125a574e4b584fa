use Rattle.sg_laws_finite.proofs.FactorizationLemmas.{factorizations-listed}
use Rattle.sg_laws_finite.proofs.laws.factorizations_are_listed.Goals as goal

pub returns : goal.returns
returns c = factorizations-listed
