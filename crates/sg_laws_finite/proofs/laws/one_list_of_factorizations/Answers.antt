use Rattle.sg_nonunique.specs.Factorizations.{IsIntegerFactorization}
use Rattle.sg_laws_finite.proofs.OneListLemmas.{one-descending}
use Rattle.sg_laws_finite.proofs.laws.one_list_of_factorizations.Goals as goal

pub returns : goal.returns
returns c G x = one-descending (IsIntegerFactorization G x)
