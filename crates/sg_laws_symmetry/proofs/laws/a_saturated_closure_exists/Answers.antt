use Rattle.sg_laws_symmetry.proofs.SaturationExists.{saturated-decided, saturated_closure-exists}
use Rattle.sg_laws_symmetry.proofs.laws.a_saturated_closure_exists.Goals as goal

pub returns-clause-saturated : goal.returns-clause-saturated
returns-clause-saturated c = saturated-decided

pub returns-clause-closure : goal.returns-clause-closure
returns-clause-closure c = saturated_closure-exists
