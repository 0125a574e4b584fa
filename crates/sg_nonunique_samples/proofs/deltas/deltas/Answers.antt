use Rattle.sg_nonunique_samples.proofs.DeltaSamples.{deltas-twelve, deltas-thirty}
use Rattle.sg_nonunique_samples.proofs.deltas.deltas.Goals as goal

pub returns-clause-twelve : goal.returns-clause-twelve
returns-clause-twelve c = deltas-twelve

pub returns-clause-thirty : goal.returns-clause-thirty
returns-clause-thirty c = deltas-thirty
