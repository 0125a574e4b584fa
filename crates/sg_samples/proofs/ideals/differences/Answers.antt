use Rattle.sg_samples.proofs.IdealSamples.{seven_in_difference, four_out_of_difference}
use Rattle.sg_samples.proofs.ideals.differences.Goals as goal

pub returns-clause-seven : goal.returns-clause-seven
returns-clause-seven c = seven_in_difference

pub returns-clause-four : goal.returns-clause-four
returns-clause-four c = four_out_of_difference
