use Rattle.std.proofs.Common.{pos, get_or, arith}
use Rattle.sg_atoms.proofs.MachineLemmas.{entry-within, weight-fits, weight-step}
use Rattle.sg_atoms.proofs.products.weight.Goals as goal

pub overflow_mul-total : goal.overflow_mul-total
overflow_mul-total c =
    let n = c.loop-place.place in
    weight-fits (get_or c.args.p.now n 0) (get_or c.args.row.now n (pos 0)) (omega (arith, c.requires.short, entry-within c.args.p.now n)) (c.requires.small n (pos 0) c.loop-place-test.true)

pub overflow_add-total : goal.overflow_add-total
overflow_add-total c =
    (weight-step c.args.row.now c.args.p.now c.loop-place.place _ c.requires.places c.requires.short c.requires.small c.loop-place-test.true c.loop-place.invariant).0

pub loop-place-preserved : goal.loop-place-preserved
loop-place-preserved c =
    (weight-step c.args.row.now c.args.p.now c.loop-place.place _ c.requires.places c.requires.short c.requires.small c.loop-place-test.true c.loop-place.invariant).1
