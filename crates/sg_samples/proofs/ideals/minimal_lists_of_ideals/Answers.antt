use Rattle.sg_samples.proofs.IdealSamples.{minimal, not_minimal}
use Rattle.sg_samples.proofs.ideals.minimal_lists_of_ideals.Goals as goal

pub returns-clause-minimal : goal.returns-clause-minimal
returns-clause-minimal c = minimal

pub returns-clause-spare : goal.returns-clause-spare
returns-clause-spare c = not_minimal
