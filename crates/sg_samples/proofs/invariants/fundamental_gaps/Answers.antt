use Rattle.sg_samples.proofs.InvariantSamples.{three_five_seven-fundamental}
use Rattle.sg_samples.proofs.invariants.fundamental_gaps.Goals as goal

pub returns : goal.returns
returns c = three_five_seven-fundamental
