use Rattle.std.proofs.Common.{◌≡◌, arith}
use Rattle.sg_rows_lists.proofs.Dividing.{lcm_zero}
use Rattle.sg_rows_lists.proofs.divisors.common_multiple.Goals as goal

pub returns-then-has_zero : goal.returns-then-has_zero
returns-then-has_zero c = λ m is. let e : 0 ≡ m = lcm_zero c.args.zs.now m (c.has_zero.ensures.0 c.if-has_zero.true) is in (omega (arith, e), e)
