use Rattle.sg_samples.proofs.IdealSamples.{two_in_double, two_out_of_single}
use Rattle.sg_samples.proofs.ideals.multiples.Goals as goal

pub returns-clause-twice : goal.returns-clause-twice
returns-clause-twice c = two_in_double

pub returns-clause-once : goal.returns-clause-once
returns-clause-once c = two_out_of_single
