use Rattle.sg_nonunique_samples.proofs.PresentationSamples.{thirty-second, thirty-third, thirty-no_other}
use Rattle.sg_nonunique_samples.proofs.presentations.canonical_relations.Goals as goal

pub returns-clause-second : goal.returns-clause-second
returns-clause-second c = thirty-second

pub returns-clause-third : goal.returns-clause-third
returns-clause-third c = thirty-third

pub returns-clause-no_other : goal.returns-clause-no_other
returns-clause-no_other c = thirty-no_other
