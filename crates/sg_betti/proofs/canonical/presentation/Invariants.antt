use Rattle.sg_defs.specs.Membership.{IsFactorization}
use Rattle.sg_betti.proofs.PresentationLemmas.{ArePresented}
use Rattle.sg_betti.proofs.canonical.presentation.Given as goal

abbrev pub invariant-loop-n : goal.invariant-loop-n
invariant-loop-n l = ArePresented (IsFactorization l.t) l.n-items l.n-index l.list
