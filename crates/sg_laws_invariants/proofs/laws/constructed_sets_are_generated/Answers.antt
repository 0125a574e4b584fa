use Rattle.sg_laws_invariants.proofs.SetsExist.{sets-generated}
use Rattle.sg_laws_invariants.proofs.laws.constructed_sets_are_generated.Goals as goal

pub returns : goal.returns
returns c = sets-generated
