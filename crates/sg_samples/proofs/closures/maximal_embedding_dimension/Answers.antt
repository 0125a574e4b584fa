use Rattle.sg_samples.proofs.ClosureSamples.{med, not_med}
use Rattle.sg_samples.proofs.closures.maximal_embedding_dimension.Goals as goal

pub returns-clause-with_seven : goal.returns-clause-with_seven
returns-clause-with_seven c = med

pub returns-clause-without : goal.returns-clause-without
returns-clause-without c = not_med
