use Rattle.std.proofs.Common.{◌-◌}
use Rattle.sg_betti.proofs.RelationLemmas.{AddsRows}
use Rattle.sg_betti.proofs.canonical.add_pairs.Given as goal

abbrev pub invariant-loop-k : goal.invariant-loop-k
invariant-loop-k l = AddsRows l.t l.n l.rows l.left (l.k - 1) l.initial.list l.list
