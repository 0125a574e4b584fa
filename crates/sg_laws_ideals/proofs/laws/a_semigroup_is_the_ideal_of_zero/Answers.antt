use Rattle.sg_laws_ideals.proofs.OwnGenerators.{symmetric-canonical, zero-ideal}
use Rattle.sg_laws_ideals.proofs.laws.a_semigroup_is_the_ideal_of_zero.Goals as goal

pub returns-clause-members : goal.returns-clause-members
returns-clause-members c = zero-ideal

pub returns-clause-symmetric : goal.returns-clause-symmetric
returns-clause-symmetric c = symmetric-canonical
