use Rattle.std.proofs.Common.{◌<◌, ◌^◌, ◌+ℤ◌, pos, ap, sym, ◌∙◌, subst, arith}
use Rattle.std.specs.Prelude.{FitsSigned}
use Rattle.std.specs.Int.{w64}
use mir.Val.{to_z, of_z}
use Rattle.std.proofs.lemmas.Int.{to_z-of_z, to_z_pos}
use Rattle.sg_value.specs.Data.{int}
use Rattle.sg_rows.proofs.Replying.{contents-Int}
use Rattle.sg_eval.proofs.Spanned.{integers_pushed}
use Rattle.sg_eval.proofs.answers.integers_from.Goals as goal

pub loop-i-preserved : goal.loop-i-preserved
loop-i-preserved c =
    let z = to_z w64 (of_z w64 c.args.first) in
    let i = c.loop-i.i in
    let small : i < 2 ^ 63 = omega (arith, c.requires.small, c.loop-i-test.true) in
    let fits : FitsSigned w64 (z +ℤ pos i) = subst (λ y. FitsSigned w64 (y +ℤ pos i)) (sym (to_z-of_z w64 c.args.first c.ranges.first)) (c.requires.within i c.loop-i-test.true) in
    integers_pushed c.loop-i.values.items c.put.new.values.items _ z i c.in_ok-put.ensures (contents-Int _ ∙ ap int (ap (λ k. to_z w64 (of_z w64 (z +ℤ k))) (to_z_pos w64 i small) ∙ to_z-of_z w64 (z +ℤ pos i) fits)) c.loop-i.invariant
