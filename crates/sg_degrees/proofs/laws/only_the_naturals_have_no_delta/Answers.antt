use Rattle.sg_degrees.proofs.LeastLemmas.{naturals-none, others-some}
use Rattle.sg_degrees.proofs.laws.only_the_naturals_have_no_delta.Goals as goal

pub returns-clause-naturals : goal.returns-clause-naturals
returns-clause-naturals c = naturals-none

pub returns-clause-others : goal.returns-clause-others
returns-clause-others c = others-some
