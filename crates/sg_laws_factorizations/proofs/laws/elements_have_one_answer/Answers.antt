use Rattle.sg_nonunique.specs.Factorizations.{IsIntegerFactorization}
use Rattle.sg_laws_factorizations.proofs.OneAnswer.{one-factorizations, one-lengths, one-deltas, one-catenary_of, one-omega}
use Rattle.sg_laws_factorizations.proofs.laws.elements_have_one_answer.Goals as goal

pub returns-clause-factorizations : goal.returns-clause-factorizations
returns-clause-factorizations c = one-factorizations

pub returns-clause-lengths : goal.returns-clause-lengths
returns-clause-lengths c = one-lengths

pub returns-clause-deltas : goal.returns-clause-deltas
returns-clause-deltas c = one-deltas

pub returns-clause-catenary : goal.returns-clause-catenary
returns-clause-catenary c G x = one-catenary_of (IsIntegerFactorization G x)

pub returns-clause-omega : goal.returns-clause-omega
returns-clause-omega c = one-omega
