use Rattle.sg_nonunique_samples.proofs.CostSamples.{partial-six, partial-negative}
use Rattle.sg_nonunique_samples.proofs.costs.partial_vectors.Goals as goal

pub returns-clause-six : goal.returns-clause-six
returns-clause-six c = partial-six

pub returns-clause-negative : goal.returns-clause-negative
returns-clause-negative c = partial-negative
