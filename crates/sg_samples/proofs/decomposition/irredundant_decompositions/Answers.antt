use Rattle.sg_samples.proofs.DecompositionSamples.{irredundant, natural-irredundant, one_is_too_few}
use Rattle.sg_samples.proofs.decomposition.irredundant_decompositions.Goals as goal

pub returns-clause-two : goal.returns-clause-two
returns-clause-two c = irredundant

pub returns-clause-naturals : goal.returns-clause-naturals
returns-clause-naturals c = natural-irredundant

pub returns-clause-one : goal.returns-clause-one
returns-clause-one c = one_is_too_few
