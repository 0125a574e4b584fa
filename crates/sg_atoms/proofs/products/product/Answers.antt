use Rattle.std.proofs.Common.{◌<◌, pos, length, get_or, arith}
use Rattle.sg_atoms.proofs.MachineLemmas.{product-fits, product-step}
use Rattle.sg_atoms.proofs.products.product.Goals as goal

pub overflow_mul-total : goal.overflow_mul-total
overflow_mul-total c =
    let inside : c.loop-place.place < length c.args.y.now = omega (arith, c.loop-place-test.true, c.requires.places) in
    let n = c.loop-place.place in
    product-fits (get_or c.args.x.now n (pos 0)) (get_or c.args.y.now n (pos 0)) (c.requires.first n (pos 0) c.loop-place-test.true) (c.requires.second n (pos 0) inside)

pub overflow_add-total : goal.overflow_add-total
overflow_add-total c =
    (product-step c.args.x.now c.args.y.now c.loop-place.place _ c.requires.places c.requires.short c.requires.first c.requires.second c.loop-place-test.true c.loop-place.invariant).0

pub loop-place-preserved : goal.loop-place-preserved
loop-place-preserved c =
    (product-step c.args.x.now c.args.y.now c.loop-place.place _ c.requires.places c.requires.short c.requires.first c.requires.second c.loop-place-test.true c.loop-place.invariant).1
