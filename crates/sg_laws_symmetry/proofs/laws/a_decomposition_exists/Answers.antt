use Rattle.sg_laws_symmetry.proofs.DecompositionExists.{decomposition-exists}
use Rattle.sg_laws_symmetry.proofs.laws.a_decomposition_exists.Goals as goal

pub returns : goal.returns
returns c = decomposition-exists
