use Rattle.sg_defs.specs.Membership.{IsFactorization}
use Rattle.sg_laws_factorizations.proofs.OneAnswer.{one-elasticity, one-betti_elements, one-relations, one-catenary, one-min_delta, one-max_delta, one-semigroup_omega}
use Rattle.sg_laws_factorizations.proofs.laws.semigroups_have_one_answer.Goals as goal

pub returns-clause-elasticity : goal.returns-clause-elasticity
returns-clause-elasticity c = one-elasticity

pub returns-clause-betti_elements : goal.returns-clause-betti_elements
returns-clause-betti_elements c = one-betti_elements

pub returns-clause-relations : goal.returns-clause-relations
returns-clause-relations c = one-relations

pub returns-clause-catenary : goal.returns-clause-catenary
returns-clause-catenary c G = one-catenary (IsFactorization G)

pub returns-clause-least_delta : goal.returns-clause-least_delta
returns-clause-least_delta c G = one-min_delta (IsFactorization G)

pub returns-clause-greatest_delta : goal.returns-clause-greatest_delta
returns-clause-greatest_delta c G = one-max_delta (IsFactorization G)

pub returns-clause-omega : goal.returns-clause-omega
returns-clause-omega c = one-semigroup_omega
