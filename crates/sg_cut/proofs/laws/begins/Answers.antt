use Rattle.sg_cut.proofs.Beginnings.{same_begin}
use Rattle.sg_cut.proofs.laws.begins.Goals as goal

pub returns-clause-unique : goal.returns-clause-unique
returns-clause-unique c = λ bytes begin other b d. same_begin b d
