use Rattle.sg_samples.proofs.SymmetrySamples.{three_five-symmetric, natural-symmetric, not_symmetric}
use Rattle.sg_samples.proofs.symmetry.symmetric.Goals as goal

pub returns-clause-odd : goal.returns-clause-odd
returns-clause-odd c = three_five-symmetric

pub returns-clause-naturals : goal.returns-clause-naturals
returns-clause-naturals c = natural-symmetric

pub returns-clause-even : goal.returns-clause-even
returns-clause-even c = not_symmetric
