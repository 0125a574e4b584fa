use Rattle.sg_samples.proofs.DecompositionSamples.{decomposition, natural-decomposition}
use Rattle.sg_samples.proofs.UnchosenSamples.{one_is_left}
use Rattle.sg_samples.proofs.decomposition.decompositions.Goals as goal

pub returns-clause-all : goal.returns-clause-all
returns-clause-all c = decomposition

pub returns-clause-one_is_left : goal.returns-clause-one_is_left
returns-clause-one_is_left c = one_is_left

pub returns-clause-naturals : goal.returns-clause-naturals
returns-clause-naturals c = natural-decomposition
