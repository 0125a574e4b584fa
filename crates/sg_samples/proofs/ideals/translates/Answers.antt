use Rattle.sg_samples.proofs.IdealSamples.{one_in, two_out}
use Rattle.sg_samples.proofs.ideals.translates.Goals as goal

pub returns-clause-six : goal.returns-clause-six
returns-clause-six c = one_in

pub returns-clause-seven : goal.returns-clause-seven
returns-clause-seven c = two_out
