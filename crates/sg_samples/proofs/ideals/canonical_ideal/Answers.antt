use Rattle.sg_samples.proofs.IdealSamples.{canonical}
use Rattle.sg_samples.proofs.ideals.canonical_ideal.Goals as goal

pub returns : goal.returns
returns c = canonical
