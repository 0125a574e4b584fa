use Rattle.sg_laws_symmetry.proofs.DecompositionIrredundant.{decomposition-irredundant}
use Rattle.sg_laws_symmetry.proofs.laws.a_decomposition_is_irredundant.Goals as goal

pub returns : goal.returns
returns c = decomposition-irredundant
