use Rattle.std.proofs.Common.{◌+◌, ◌*◌, ◌/◌, ◌^◌, ◌<◌, arith}
use Rattle.sg_tables.proofs.ModulusLemmas.{first-more, steps-fit, top-fits}
use Rattle.sg_tables.proofs.modulus.list_modulo.Goals as goal

pub overflow_mul-near : goal.overflow_mul-near
overflow_mul-near c =
    let n = c.args.modulus in
    let top = c.greatest.result / n + 1 in
    let i = c.loop-class.class in
    let fits : i + c.first_steps-near.result * n < 2 ^ 63 = steps-fit i c.first_steps-near.result top n (2 ^ 63) c.first_steps-near.ensures.within
    (top-fits c.args.apery.now n i c.greatest.result c.requires.positive c.requires.short c.loop-class-test.true c.greatest.ensures c.requires.small) in
    omega arith

pub overflow_add-class : goal.overflow_add-class
overflow_add-class c =
    let n = c.args.modulus in
    let top = c.greatest.result / n + 1 in
    let i = c.loop-class.class in
    let fits : i + c.first_steps-near.result * n < 2 ^ 63 = steps-fit i c.first_steps-near.result top n (2 ^ 63) c.first_steps-near.ensures.within
    (top-fits c.args.apery.now n i c.greatest.result c.requires.positive c.requires.short c.loop-class-test.true c.greatest.ensures c.requires.small) in
    omega arith

pub loop-class-preserved : goal.loop-class-preserved
loop-class-preserved c =
    let n = c.args.modulus in
    record {
      near = c.first_steps-near.ensures.within;
      list = rw c.in_ok-push.ensures.items (first-more c.args.apery.now n c.loop-class.class (c.greatest.result / n + 1) c.first_steps-near.result c.loop-class.list.items
          c.requires.positive c.loop-class-test.true c.loop-class.invariant.list c.first_steps-near.ensures);
    }
