use Rattle.std.proofs.Common.{◌≡◌, ◌*◌, ◌∙◌, ap, subst, w64, arith}
use Rattle.std.specs.Prelude.{nat_abs, pos, ◌≤ℤ◌}
use Rattle.std.proofs.lemmas.Int.{ints, to_z-of_z}
use Rattle.sg_lawful.specs.declared.limits.TheConstants.{IDEAL_GENERATOR_LIMIT}
use Rattle.sg_ideal.proofs.FoldLemmas.{times-above, times-below, times-large}
use Rattle.sg_ideal.proofs.fold.product.Goals as goal

pub returns-in_default : goal.returns-in_default
returns-in_default c =
    let k = c.args.k in
    let x = c.args.x in
    let u : c.unsigned_abs.result ≡ nat_abs x = c.unsigned_abs.ensures.value ∙ ap nat_abs (to_z-of_z w64 x c.ranges.x) in
    let not = c.in_default.ensures in
    let far : IDEAL_GENERATOR_LIMIT ≤ℤ pos (k * c.unsigned_abs.result) = omega (arith, ints) in
    times-large k x (subst (λ n. IDEAL_GENERATOR_LIMIT ≤ℤ pos (k * n)) u far)

pub returns-then-size : goal.returns-then-size
returns-then-size c =
    let k = c.args.k in
    let x = c.args.x in
    let u : c.unsigned_abs.result ≡ nat_abs x = c.unsigned_abs.ensures.value ∙ ap nat_abs (to_z-of_z w64 x c.ranges.x) in
    let e = c.in-Some.ensures.1 in
    let far : IDEAL_GENERATOR_LIMIT ≤ℤ pos (k * c.unsigned_abs.result) = omega (arith, ints, e, c.if-size.true) in
    times-large k x (subst (λ n. IDEAL_GENERATOR_LIMIT ≤ℤ pos (k * n)) u far)

pub returns-then-x-lt0 : goal.returns-then-x-lt0
returns-then-x-lt0 c =
    let k = c.args.k in
    let x = c.args.x in
    let u : c.unsigned_abs.result ≡ nat_abs x = c.unsigned_abs.ensures.value ∙ ap nat_abs (to_z-of_z w64 x c.ranges.x) in
    let e : c.in-Some.size ≡ k * nat_abs x = subst (λ n. c.in-Some.size ≡ k * n) u c.in-Some.ensures.1 in
    let t = c.if-x-lt0.true in
    let f = times-below k x (grind (arith, ints)) in
    let s = c.if-size.false in
    (omega (arith, ints, e, f, s), (omega (arith, ints, e, f, s), omega (arith, ints, e, f, s)))

pub returns : goal.returns
returns c =
    let k = c.args.k in
    let x = c.args.x in
    let u : c.unsigned_abs.result ≡ nat_abs x = c.unsigned_abs.ensures.value ∙ ap nat_abs (to_z-of_z w64 x c.ranges.x) in
    let e : c.in-Some.size ≡ k * nat_abs x = subst (λ n. c.in-Some.size ≡ k * n) u c.in-Some.ensures.1 in
    let t = c.if-x-lt0.false in
    let f = times-above k x (grind (arith, ints)) in
    let s = c.if-size.false in
    (omega (arith, ints, e, f, s), (omega (arith, ints, e, f, s), omega (arith, ints, e, f, s)))
