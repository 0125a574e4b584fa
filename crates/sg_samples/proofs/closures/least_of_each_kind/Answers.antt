use Rattle.sg_samples.proofs.ClosureSamples.{arf_closure, med_closure, saturated_closure}
use Rattle.sg_samples.proofs.closures.least_of_each_kind.Goals as goal

pub returns-clause-arf : goal.returns-clause-arf
returns-clause-arf c = arf_closure

pub returns-clause-med : goal.returns-clause-med
returns-clause-med c = med_closure

pub returns-clause-saturated : goal.returns-clause-saturated
returns-clause-saturated c = saturated_closure
