use Rattle.sg_laws_ideals.proofs.InstancesExist.{canonical-exists, maximal-exists}
use Rattle.sg_laws_ideals.proofs.laws.the_canonical_and_the_maximal_ideal_have_minimal_lists.Goals as goal

pub returns-clause-canonical : goal.returns-clause-canonical
returns-clause-canonical c = canonical-exists

pub returns-clause-maximal : goal.returns-clause-maximal
returns-clause-maximal c = maximal-exists
