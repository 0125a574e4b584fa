use Rattle.sg_defs.proofs.SymmetryLemmas.{pseudo_symmetric-irreducible}
use Rattle.sg_samples.proofs.laws.pseudo_symmetric_semigroups_are_irreducible.Goals as goal

pub returns : goal.returns
returns c = pseudo_symmetric-irreducible
