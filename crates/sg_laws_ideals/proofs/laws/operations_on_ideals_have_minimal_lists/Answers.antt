use Rattle.sg_laws_ideals.proofs.InstancesExist.{generated-exists, sum-exists, difference-exists, both-exists, multiple-exists, translate-exists}
use Rattle.sg_laws_ideals.proofs.laws.operations_on_ideals_have_minimal_lists.Goals as goal

pub returns-clause-generated : goal.returns-clause-generated
returns-clause-generated c = generated-exists

pub returns-clause-sum : goal.returns-clause-sum
returns-clause-sum c = sum-exists

pub returns-clause-difference : goal.returns-clause-difference
returns-clause-difference c = difference-exists

pub returns-clause-intersection : goal.returns-clause-intersection
returns-clause-intersection c = both-exists

pub returns-clause-multiple : goal.returns-clause-multiple
returns-clause-multiple c = multiple-exists

pub returns-clause-translate : goal.returns-clause-translate
returns-clause-translate c = translate-exists
