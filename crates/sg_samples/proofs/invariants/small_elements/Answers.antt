use Rattle.sg_samples.proofs.InvariantSamples.{three_five_seven-small, natural-small}
use Rattle.sg_samples.proofs.invariants.small_elements.Goals as goal

pub returns-clause-to_five : goal.returns-clause-to_five
returns-clause-to_five c = three_five_seven-small

pub returns-clause-naturals : goal.returns-clause-naturals
returns-clause-naturals c = natural-small
