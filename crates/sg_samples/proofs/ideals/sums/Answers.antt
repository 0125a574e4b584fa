use Rattle.sg_samples.proofs.IdealSamples.{two_in_sum, negative_out_of_sum}
use Rattle.sg_samples.proofs.ideals.sums.Goals as goal

pub returns-clause-two : goal.returns-clause-two
returns-clause-two c = two_in_sum

pub returns-clause-negative : goal.returns-clause-negative
returns-clause-negative c = negative_out_of_sum
