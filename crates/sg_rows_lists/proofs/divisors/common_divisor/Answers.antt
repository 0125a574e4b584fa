use Rattle.std.proofs.Common.{◌≡◌, pos, get_or, ap, ◌∙◌, subst, rules}
use Rattle.std.specs.Prelude.{FitsSigned, unsigned_abs}
use Rattle.std.proofs.lemmas.Int.{to_z-of_z}
use Rattle.std.specs.Int.{w64, IsGcd}
use Rattle.sg_rows_lists.proofs.Dividing.{gcd_more, gcd_last}
use Rattle.sg_rows_lists.proofs.divisors.common_divisor.Goals as goal

pub loop-z-preserved : goal.loop-z-preserved
loop-z-preserved c g h =
    let z = get_or c.args.zs.now c.loop-z.z-index (pos 0) in
    let fit : FitsSigned w64 z = search rules in
    let size : c.unsigned_abs.result ≡ unsigned_abs z = c.unsigned_abs.ensures.value ∙ ap unsigned_abs (to_z-of_z w64 z fit) in
    c.loop-z.invariant g (gcd_more c.args.zs.now c.loop-z.z-index c.loop-z.divisor c.gcd-divisor.result g c.loop-z-test.true (subst (λ n. IsGcd c.loop-z.divisor n c.gcd-divisor.result) size c.gcd-divisor.ensures) h)

pub returns : goal.returns
returns c = c.loop-z.invariant c.loop-z.divisor (gcd_last c.args.zs.now c.loop-z.z-index c.loop-z.divisor c.loop-z-test.false)
