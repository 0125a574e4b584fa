use Rattle.sg_samples.proofs.IdealSamples.{four_in, two_out}
use Rattle.sg_samples.proofs.ideals.ideal_members.Goals as goal

pub returns-clause-four : goal.returns-clause-four
returns-clause-four c = four_in

pub returns-clause-two : goal.returns-clause-two
returns-clause-two c = two_out
