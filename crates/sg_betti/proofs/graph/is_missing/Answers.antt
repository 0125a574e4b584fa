use Rattle.std.proofs.Common.{◌≡◌, ◌<◌, ◌≤◌, [], length, get_or, sym, ap, subst, ◌∙◌, below_more, arith}
use Rattle.std.specs.Prelude.{Contains}
use Rattle.std.proofs.lemmas.Bool.{false≢true}
use Rattle.std.proofs.lemmas.List.{get_or_default}
use Rattle.sg_betti.proofs.graph.is_missing.Goals as goal

pub loop-row-preserved : goal.loop-row-preserved
loop-row-preserved c =
    let rows = c.args.rows.now in
    let i = c.loop-row.row-index in
    let place = c.args.place in
    let same = c.as_slice-row-items.ensures in
    let inside : i < length rows = subst (λ l. i < length l) same c.loop-row-test.true in
    let read : get_or rows i [] ≡ c.row-item.result =
    get_or_default rows i [] c.row-item.result inside ∙ ap (λ l. get_or l i c.row-item.result) (sym same) ∙ sym c.row-item.is in
    below_more (λ j. Contains (get_or rows j []) place → ⊥) i c.loop-row.invariant
    (λ h. false≢true (sym c.if-has_place.false ∙ c.has_place.ensures.1 (subst (λ l. Contains l place) (read ∙ sym c.as_slice.ensures) h)))

pub returns-then-has_place : goal.returns-then-has_place
returns-then-has_place c =
    let rows = c.args.rows.now in
    let i = c.loop-row.row-index in
    let same = c.as_slice-row-items.ensures in
    let inside : i < length rows = subst (λ l. i < length l) same c.loop-row-test.true in
    let row = c.row-item.result in
    let read : get_or rows i row ≡ row = ap (λ l. get_or l i row) (sym same) ∙ sym c.row-item.is in
    (row, (i, inside, read), subst (λ l. Contains l c.args.place) c.as_slice.ensures (c.has_place.ensures.0 c.if-has_place.true))

pub returns : goal.returns
returns c = λ found.
    let rows = c.args.rows.now in
    let r = found.0 in
    let there = found.1 in
    let at : get_or rows there.0 [] ≡ r = get_or_default rows there.0 [] r there.1 ∙ there.2 in
    let far : length rows ≤ c.loop-row.row-index = subst (λ l. length l ≤ c.loop-row.row-index) c.as_slice-row-items.ensures c.loop-row-test.false in
    c.loop-row.invariant there.0 (omega (arith, there.1, far)) (subst (λ l. Contains l c.args.place) (sym at) found.2)
