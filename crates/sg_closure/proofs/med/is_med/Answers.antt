use Rattle.std.specs.Prelude.{◌↔◌, IsTrue}
use Rattle.std.proofs.Common.{subst}
use Rattle.sg_defs.specs.Closures.{IsMed}
use Rattle.sg_closure.proofs.med.is_med.Goals as goal

pub returns : goal.returns
returns c = subst (λ G. IsTrue c.is_med_by_generators.result ↔ IsMed G) c.generators.ensures.same c.is_med_by_generators.ensures
