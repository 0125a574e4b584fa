use Rattle.sg_nonunique_samples.proofs.FactorizationSamples.{lengths-twelve}
use Rattle.sg_nonunique_samples.proofs.factorizations.lengths.Goals as goal

pub returns : goal.returns
returns c = lengths-twelve
