use Rattle.sg_laws_invariants.proofs.ClosuresExist.{arf-decided, med-decided, arf_closure-exists, med_closure-exists}
use Rattle.sg_laws_invariants.proofs.laws.closures_exist.Goals as goal

pub returns-clause-arf : goal.returns-clause-arf
returns-clause-arf c = arf-decided

pub returns-clause-med : goal.returns-clause-med
returns-clause-med c = med-decided

pub returns-clause-arf_closure : goal.returns-clause-arf_closure
returns-clause-arf_closure c = arf_closure-exists

pub returns-clause-med_closure : goal.returns-clause-med_closure
returns-clause-med_closure c = med_closure-exists
