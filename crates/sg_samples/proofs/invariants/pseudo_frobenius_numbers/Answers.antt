use Rattle.sg_samples.proofs.InvariantSamples.{three_five_seven-pseudo, three_five_seven-type, natural-pseudo}
use Rattle.sg_samples.proofs.invariants.pseudo_frobenius_numbers.Goals as goal

pub returns-clause-two : goal.returns-clause-two
returns-clause-two c = three_five_seven-pseudo

pub returns-clause-count : goal.returns-clause-count
returns-clause-count c = three_five_seven-type

pub returns-clause-naturals : goal.returns-clause-naturals
returns-clause-naturals c = natural-pseudo
