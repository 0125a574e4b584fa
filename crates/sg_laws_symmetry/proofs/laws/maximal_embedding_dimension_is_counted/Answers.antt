use Rattle.sg_closure.proofs.MedLemmas.{med-by_length}
use Rattle.sg_laws_symmetry.proofs.laws.maximal_embedding_dimension_is_counted.Goals as goal

pub returns : goal.returns
returns c G s minimal = let t = med-by_length G s minimal in (t.1, t.0)
