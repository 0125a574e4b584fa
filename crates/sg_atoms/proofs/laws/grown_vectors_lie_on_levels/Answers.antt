use Rattle.sg_atoms.proofs.LevelLemmas.{first-level, next-level, none-after}
use Rattle.sg_atoms.proofs.laws.grown_vectors_lie_on_levels.Goals as goal

pub returns : goal.returns
returns c = record { first = first-level; next = next-level; last = none-after }
