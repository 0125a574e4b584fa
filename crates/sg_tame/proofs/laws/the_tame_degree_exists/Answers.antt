use Rattle.sg_tame.proofs.TameExists.{tame-exists}
use Rattle.sg_tame.proofs.laws.the_tame_degree_exists.Goals as goal

pub returns : goal.returns
returns c = tame-exists
