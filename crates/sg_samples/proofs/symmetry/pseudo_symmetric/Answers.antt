use Rattle.sg_samples.proofs.SymmetrySamples.{three_five_seven-pseudo_symmetric, not_pseudo_symmetric}
use Rattle.sg_samples.proofs.symmetry.pseudo_symmetric.Goals as goal

pub returns-clause-even : goal.returns-clause-even
returns-clause-even c = three_five_seven-pseudo_symmetric

pub returns-clause-odd : goal.returns-clause-odd
returns-clause-odd c = not_pseudo_symmetric
