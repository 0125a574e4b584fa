use Rattle.sg_samples.proofs.VectorSamples.{descending_fifteen, ascending_fifteen}
use Rattle.sg_samples.proofs.vectors.factorizations_of_fifteen.Goals as goal

pub returns-clause-descending : goal.returns-clause-descending
returns-clause-descending c = descending_fifteen

pub returns-clause-ascending : goal.returns-clause-ascending
returns-clause-ascending c = ascending_fifteen
