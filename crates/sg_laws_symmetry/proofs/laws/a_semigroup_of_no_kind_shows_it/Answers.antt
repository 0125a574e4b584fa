use Rattle.sg_laws_symmetry.proofs.SymmetryDecisions.{irreducible-kinds, reducible-shown, unmirrored-shown}
use Rattle.sg_laws_symmetry.proofs.laws.a_semigroup_of_no_kind_shows_it.Goals as goal

pub returns-clause-symmetric : goal.returns-clause-symmetric
returns-clause-symmetric c = unmirrored-shown

pub returns-clause-irreducible : goal.returns-clause-irreducible
returns-clause-irreducible c = irreducible-kinds

pub returns-clause-reducible : goal.returns-clause-reducible
returns-clause-reducible c = reducible-shown
