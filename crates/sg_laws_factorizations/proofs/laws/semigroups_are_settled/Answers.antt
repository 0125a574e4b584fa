use Rattle.sg_laws_factorizations.proofs.SemigroupsSettled.{betti_elements-listed, canonical_relations-listed, catenary-settled, elasticity-settled, max_delta-settled, min_delta-settled, semigroup_omega-settled}
use Rattle.sg_laws_factorizations.proofs.laws.semigroups_are_settled.Goals as goal

pub returns-clause-elasticity : goal.returns-clause-elasticity
returns-clause-elasticity c = elasticity-settled

pub returns-clause-betti_elements : goal.returns-clause-betti_elements
returns-clause-betti_elements c = betti_elements-listed

pub returns-clause-relations : goal.returns-clause-relations
returns-clause-relations c = canonical_relations-listed

pub returns-clause-catenary : goal.returns-clause-catenary
returns-clause-catenary c = catenary-settled

pub returns-clause-least_delta : goal.returns-clause-least_delta
returns-clause-least_delta c = min_delta-settled

pub returns-clause-greatest_delta : goal.returns-clause-greatest_delta
returns-clause-greatest_delta c = max_delta-settled

pub returns-clause-omega : goal.returns-clause-omega
returns-clause-omega c = semigroup_omega-settled
