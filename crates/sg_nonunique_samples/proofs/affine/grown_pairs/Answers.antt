use Rattle.sg_nonunique_samples.proofs.GrownSamples.{grown-pairs}
use Rattle.sg_nonunique_samples.proofs.affine.grown_pairs.Goals as goal

pub returns : goal.returns
returns c = grown-pairs
