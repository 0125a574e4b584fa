use Rattle.std.proofs.Common.{◌++◌, ◌∷◌, [], sym, ap, subst, ◌∙◌, arith}
use Rattle.sg_factor.proofs.BoundsLemmas.{AreBoundsSoFar, bounds-start, bounds-step, bounds-done}
use Rattle.sg_factor.proofs.bounds.bounds_from.Goals as goal

pub loop-count-init : goal.loop-count-init
loop-count-init c = subst (λ rows. AreBoundsSoFar c.args.generators.now 0 rows c.args.table.now) (sym c.new-rows.ensures)
    (bounds-start c.args.generators.now c.args.table.now c.requires.not_empty c.requires.zero)

pub loop-count-preserved : goal.loop-count-preserved
loop-count-preserved c =
    let t = c.add_generator.new.table in
    let made = c.in_ok-push.ensures.ok ∙ ap (λ row. c.loop-count.rows ++ row ∷ []) c.in_ok-from_slice.ensures in
    bounds-step c.args.generators.now c.loop-count.count c.loop-count.rows c.push.new.self c.loop-count.table t c.loop-count-test.true
    (omega (arith, c.add_generator.auto.table, c.loop-count.auto.table, c.requires.not_empty)) c.add_generator.ensures.lowered c.add_generator.ensures.closed made c.loop-count.invariant

pub returns : goal.returns
returns c = bounds-done c.args.generators.now c.loop-count.count c.loop-count.rows c.loop-count.table c.loop-count-test.false c.loop-count.invariant
