use Rattle.sg_samples.proofs.DecompositionSamples.{cover_of_five, cover_of_four}
use Rattle.sg_samples.proofs.decomposition.covers.Goals as goal

pub returns-clause-five : goal.returns-clause-five
returns-clause-five c = cover_of_five

pub returns-clause-four : goal.returns-clause-four
returns-clause-four c = cover_of_four
