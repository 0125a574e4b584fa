use Rattle.sg_laws_symmetry.proofs.SymmetryDecisions.{symmetric-decided, pseudo_symmetric-decided, irreducible-decided}
use Rattle.sg_laws_symmetry.proofs.laws.symmetry_is_decided.Goals as goal

pub returns-clause-symmetric : goal.returns-clause-symmetric
returns-clause-symmetric c = symmetric-decided

pub returns-clause-pseudo_symmetric : goal.returns-clause-pseudo_symmetric
returns-clause-pseudo_symmetric c = pseudo_symmetric-decided

pub returns-clause-irreducible : goal.returns-clause-irreducible
returns-clause-irreducible c = irreducible-decided
