use Rattle.std.proofs.Common.{◌≡◌, ◌+◌, ◌-◌, suc, Ok, refl, sym, subst, arith}
use Rattle.sg_value.specs.Plain.{AllKnown, plain}
use Rattle.sg_meaning.specs.Expressions.{negated, ask}
use Rattle.sg_eval.specs.Outcomes.{Evaluates}
use Rattle.sg_meaning.specs.Queries.{negates}
use Rattle.sg_eval.proofs.Evaluating.{evaluates_exit, evaluates_then, evaluates_gives}
use Rattle.sg_eval.proofs.signs.negated.Goals as goal

pub loop-i-init : goal.loop-i-init
loop-i-init c = λ s is_known.
    let all : c.args.count - 0 ≡ c.args.count = omega arith in
    (is_known, λ r h. subst (λ n. Evaluates plain AllKnown r s s (λ names. negated n (plain names c.args.v))) all h)

pub returns-in_err-value : goal.returns-in_err-value
returns-in_err-value c = λ s is_known.
    let so_far = c.loop-i.invariant s is_known in
    let v = c.loop-i.value in
    let m = c.args.count - (c.loop-i.i + 1) in
    let more : c.args.count - c.loop-i.i ≡ suc m = omega (arith, c.loop-i-test.true) in
    let r = c.from_residual.result in
    so_far.1 r (subst (λ n. Evaluates plain AllKnown r s s (λ names. negated n (plain names v))) (sym more)
    (evaluates_exit plain AllKnown plain AllKnown r _ s s (λ names. ask (negates (plain names v))) (λ names. negated m) c.from_residual.ensures.1 (c.in_err-value.ensures s so_far.0)))

pub loop-i-preserved : goal.loop-i-preserved
loop-i-preserved c = λ s is_known.
    let so_far = c.loop-i.invariant s is_known in
    let v = c.loop-i.value in
    let w = c.in_ok-value.value in
    let m = c.args.count - (c.loop-i.i + 1) in
    let more : c.args.count - c.loop-i.i ≡ suc m = omega (arith, c.loop-i-test.true) in
    let e = c.in_ok-value.ensures s so_far.0 in (
      e.is_known,
      λ r h. so_far.1 r (subst (λ n. Evaluates plain AllKnown r s s (λ names. negated n (plain names v))) (sym more)
          (evaluates_then plain AllKnown plain AllKnown w r s s s (λ names. ask (negates (plain names v))) (λ names. negated m) e h)),
    )

pub returns : goal.returns
returns c = λ s is_known.
    let so_far = c.loop-i.invariant s is_known in
    let v = c.loop-i.value in
    let over : c.args.count - c.loop-i.i ≡ 0 = omega (arith, c.loop-i-test.false) in
    so_far.1 (Ok v) (subst (λ n. Evaluates plain AllKnown (Ok v) s s (λ names. negated n (plain names v))) (sym over) (evaluates_gives plain AllKnown v s (λ names. plain names v) so_far.0 (λ final later. refl)))
