use Rattle.std.proofs.Common.{◌+◌, take, sym, subst}
use Rattle.std.proofs.lemmas.List.{take_all}
use Rattle.sg_defs.specs.Membership.{IsFactorization}
use Rattle.sg_degrees.specs.Lengths.{IsShortestAt}
use Rattle.sg_degrees.proofs.ClassLemmas.{shortest-first, shortest-next}
use Rattle.sg_degrees.proofs.class_lengths.shortest.Goals as goal

pub loop-k-init : goal.loop-k-init
loop-k-init c = shortest-first (IsFactorization c.args.generators.now c.args.n) c.args.row.now c.shortest_with-shortest.result c.requires.some c.shortest_with-shortest.ensures

pub loop-k-preserved : goal.loop-k-preserved
loop-k-preserved c =
    let row = c.args.row.now in
    let k = c.loop-k.k in
    subst (IsShortestAt (IsFactorization c.args.generators.now c.args.n) (take (k + 1) row)) (sym c.min-shortest.ensures)
    (shortest-next (IsFactorization c.args.generators.now c.args.n) row k c.loop-k.shortest c.shortest_with-length.result c.loop-k-test.true c.loop-k.invariant c.shortest_with-length.ensures)

pub returns : goal.returns
returns c = subst (λ r. IsShortestAt (IsFactorization c.args.generators.now c.args.n) r c.loop-k.shortest) (take_all c.loop-k.k c.args.row.now c.loop-k-test.false) c.loop-k.invariant
