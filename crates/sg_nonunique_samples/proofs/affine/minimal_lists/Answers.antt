use Rattle.sg_nonunique_samples.proofs.AffineSamples.{minimal, five-spare}
use Rattle.sg_nonunique_samples.proofs.affine.minimal_lists.Goals as goal

pub returns-clause-minimal : goal.returns-clause-minimal
returns-clause-minimal c = minimal

pub returns-clause-spare : goal.returns-clause-spare
returns-clause-spare c = five-spare
