use Rattle.sg_samples.proofs.IdealSamples.{three_in_maximal, zero_out_of_maximal}
use Rattle.sg_samples.proofs.ideals.maximal_ideal.Goals as goal

pub returns-clause-three : goal.returns-clause-three
returns-clause-three c = three_in_maximal

pub returns-clause-zero : goal.returns-clause-zero
returns-clause-zero c = zero_out_of_maximal
