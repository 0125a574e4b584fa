use Rattle.sg_laws_factorizations.proofs.ElementsSettled.{integer_factorizations-listed, counts-decided, integer_lengths-listed, integer_deltas-listed, integer_catenary-exists}
use Rattle.sg_laws_factorizations.proofs.SemigroupsSettled.{omega-settled}
use Rattle.sg_laws_factorizations.proofs.laws.elements_are_settled.Goals as goal

pub returns-clause-factorizations : goal.returns-clause-factorizations
returns-clause-factorizations c = integer_factorizations-listed

pub returns-clause-counts : goal.returns-clause-counts
returns-clause-counts c G x b s = counts-decided G x s b

pub returns-clause-lengths : goal.returns-clause-lengths
returns-clause-lengths c = integer_lengths-listed

pub returns-clause-deltas : goal.returns-clause-deltas
returns-clause-deltas c = integer_deltas-listed

pub returns-clause-catenary : goal.returns-clause-catenary
returns-clause-catenary c = integer_catenary-exists

pub returns-clause-omega : goal.returns-clause-omega
returns-clause-omega c G n s = omega-settled G s n
