use Rattle.sg_defs.proofs.SymmetryLemmas.{symmetric-irreducible}
use Rattle.sg_samples.proofs.laws.symmetric_semigroups_are_irreducible.Goals as goal

pub returns : goal.returns
returns c = symmetric-irreducible
