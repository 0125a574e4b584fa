use Rattle.sg_laws_finite.proofs.PartialLemmas.{partial-listed}
use Rattle.sg_laws_finite.proofs.laws.partial_vectors_are_listed.Goals as goal

pub returns : goal.returns
returns c = partial-listed
