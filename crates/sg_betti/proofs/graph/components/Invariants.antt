use Rattle.sg_defs.specs.Membership.{IsFactorization}
use Rattle.sg_betti.proofs.GraphLemmas.{AreFirstComponents}
use Rattle.sg_betti.proofs.graph.components.Given as goal

abbrev pub invariant-loop-root : goal.invariant-loop-root
invariant-loop-root l = AreFirstComponents (IsFactorization l.t l.n) l.root l.rows
