use Rattle.std.proofs.Common.{◌+◌, ◌<◌, length, take, refl, sym, subst, ◌∙◌}
use Rattle.std.specs.Prelude.{All}
use Rattle.sg_defs.specs.Membership.{IsFactorization}
use Rattle.sg_laws_families.specs.PlaceGraph.{IsVertex}
use Rattle.sg_degrees.specs.Greatest.{IsGreatestOver}
use Rattle.sg_degrees.specs.Lengths.{IsShortestAt}
use Rattle.sg_degrees.proofs.ClassLemmas.{row-some, row-vertices}
use Rattle.sg_degrees.proofs.GreatestLemmas.{over-all, over-next, over-none}
use Rattle.sg_degrees.proofs.class_lengths.longest_row.Goals as goal

pub loop-row-init : goal.loop-row-init
loop-row-init c = over-none (IsShortestAt (IsFactorization c.args.generators.now c.args.n)) (take 0 c.args.rows.now) refl

pub shortest-length-requires-clause-some : goal.shortest-length-requires-clause-some
shortest-length-requires-clause-some c =
    subst (λ r. 0 < length r) (sym c.as_slice.ensures)
    (row-some (IsFactorization c.args.generators.now c.args.n) c.args.rows.now c.row-item.result c.requires.components (c.loop-row.row-index, c.loop-row-test.true, sym c.row-item.is))

pub shortest-length-requires-clause-vertices : goal.shortest-length-requires-clause-vertices
shortest-length-requires-clause-vertices c =
    subst (All (IsVertex (IsFactorization c.args.generators.now c.args.n))) (sym c.as_slice.ensures)
    (row-vertices (IsFactorization c.args.generators.now c.args.n) c.args.rows.now c.row-item.result c.requires.components (c.loop-row.row-index, c.loop-row-test.true, sym c.row-item.is))

pub loop-row-preserved : goal.loop-row-preserved
loop-row-preserved c =
    let rows = c.args.rows.now in
    let i = c.loop-row.row-index in
    let row = c.row-item.result in
    let length = c.shortest-length.result in
    subst (IsGreatestOver (IsShortestAt (IsFactorization c.args.generators.now c.args.n)) (take (i + 1) rows)) (sym c.max-longest.ensures)
    (over-next (IsShortestAt (IsFactorization c.args.generators.now c.args.n)) rows i row length c.loop-row.longest c.loop-row-test.true c.loop-row.invariant
    (subst (λ r. IsShortestAt (IsFactorization c.args.generators.now c.args.n) r length) (c.as_slice.ensures ∙ c.row-item.is) c.shortest-length.ensures))

pub returns : goal.returns
returns c = over-all (IsShortestAt (IsFactorization c.args.generators.now c.args.n)) c.args.rows.now c.loop-row.row-index c.loop-row.longest c.loop-row-test.false c.loop-row.invariant
