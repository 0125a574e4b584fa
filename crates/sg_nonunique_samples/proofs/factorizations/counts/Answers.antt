use Rattle.sg_nonunique_samples.proofs.FactorizationSamples.{above_two, not_above_three}
use Rattle.sg_nonunique_samples.proofs.factorizations.counts.Goals as goal

pub returns-clause-two : goal.returns-clause-two
returns-clause-two c = above_two

pub returns-clause-three : goal.returns-clause-three
returns-clause-three c = not_above_three
