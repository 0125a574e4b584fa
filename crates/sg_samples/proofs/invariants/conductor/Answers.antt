use Rattle.sg_samples.proofs.InvariantSamples.{three_five_seven-frobenius, natural-frobenius}
use Rattle.sg_samples.proofs.invariants.conductor.Goals as goal

pub returns-clause-five : goal.returns-clause-five
returns-clause-five c = three_five_seven-frobenius

pub returns-clause-naturals : goal.returns-clause-naturals
returns-clause-naturals c = natural-frobenius
