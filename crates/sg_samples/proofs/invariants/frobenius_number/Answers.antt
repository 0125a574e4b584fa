use Rattle.sg_samples.proofs.InvariantSamples.{three_five-frobenius, not_four, natural-frobenius}
use Rattle.sg_samples.proofs.invariants.frobenius_number.Goals as goal

pub returns-clause-greatest : goal.returns-clause-greatest
returns-clause-greatest c = three_five-frobenius

pub returns-clause-lesser : goal.returns-clause-lesser
returns-clause-lesser c = not_four

pub returns-clause-naturals : goal.returns-clause-naturals
returns-clause-naturals c = natural-frobenius
