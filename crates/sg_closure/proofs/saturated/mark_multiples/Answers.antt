use Rattle.std.proofs.Common.{◌≡◌, get_or, sym, ap, subst, ◌∙◌, arith}
use Rattle.sg_closure.proofs.SaturationLemmas.{IsSifted, sifted-begins, sifted-steps, next-positive}
use Rattle.sg_closure.proofs.saturated.mark_multiples.Goals as goal

pub loop-n-init : goal.loop-n-init
loop-n-init c =
    let G = c.args.table.now in
    let first : get_or G 0 0 ≡ get_or c.as_slice.result.now 0 0 = sym (ap (λ x. get_or x 0 0) (c.as_slice.ensures ∙ c.generators.ensures.same)) in
    subst (λ m. IsSifted G c.args.marks.now c.args.marks.now 0 m) first (sifted-begins G c.generators.ensures.semigroup c.generators.ensures.minimal c.args.marks.now c.requires)

pub nonzero_rem-marks : goal.nonzero_rem-marks
nonzero_rem-marks c =
    let G = c.args.table.now in
    let first : get_or G 0 0 ≡ get_or c.as_slice.result.now 0 0 = sym (ap (λ x. get_or x 0 0) (c.as_slice.ensures ∙ c.generators.ensures.same)) in
    let p = next-positive G c.generators.ensures.semigroup c.generators.ensures.minimal c.args.marks.now c.requires c.loop-n.marks c.loop-n.divisor c.next_divisor-divisor.result c.loop-n.n
    c.loop-n.invariant (omega (arith, first, c.loop-n.auto.n)) c.loop-n-test.true c.next_divisor-divisor.ensures.marked c.next_divisor-divisor.ensures.unmarked in
    omega (arith, p)

pub loop-n-preserved : goal.loop-n-preserved
loop-n-preserved c =
    let G = c.args.table.now in
    let first : get_or G 0 0 ≡ get_or c.as_slice.result.now 0 0 = sym (ap (λ x. get_or x 0 0) (c.as_slice.ensures ∙ c.generators.ensures.same)) in
    sifted-steps G c.generators.ensures.semigroup c.generators.ensures.minimal c.args.marks.now c.requires c.loop-n.marks c.loop-n.divisor c.next_divisor-divisor.result c.loop-n.n
    c.loop-n.invariant (omega (arith, first, c.loop-n.auto.n)) c.loop-n-test.true c.next_divisor-divisor.ensures.marked c.next_divisor-divisor.ensures.unmarked
