use Rattle.sg_samples.proofs.VectorSamples.{not_below}
use Rattle.sg_samples.proofs.vectors.below_at_each_place.Goals as goal

pub returns-clause-across : goal.returns-clause-across
returns-clause-across c = not_below
