use Rattle.sg_samples.proofs.SymmetrySamples.{three_five-irreducible, three_five_seven-irreducible, natural-irreducible, reducible}
use Rattle.sg_samples.proofs.symmetry.irreducible.Goals as goal

pub returns-clause-symmetric : goal.returns-clause-symmetric
returns-clause-symmetric c = three_five-irreducible

pub returns-clause-pseudo_symmetric : goal.returns-clause-pseudo_symmetric
returns-clause-pseudo_symmetric c = three_five_seven-irreducible

pub returns-clause-naturals : goal.returns-clause-naturals
returns-clause-naturals c = natural-irreducible

pub returns-clause-intersection : goal.returns-clause-intersection
returns-clause-intersection c = reducible
