use Rattle.sg_samples.proofs.InvariantSamples.{three_five_seven-special, natural-special}
use Rattle.sg_samples.proofs.invariants.special_gaps.Goals as goal

pub returns-clause-four : goal.returns-clause-four
returns-clause-four c = three_five_seven-special

pub returns-clause-naturals : goal.returns-clause-naturals
returns-clause-naturals c = natural-special
