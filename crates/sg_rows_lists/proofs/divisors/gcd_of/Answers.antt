use Rattle.std.proofs.Common.{◌≡◌, ◌<◌, ◌^◌, pos, [], refl, rules}
use Rattle.sg_rows_lists.specs.Integers.{IsGcdOfAll}
use Rattle.sg_rows_lists.proofs.Numbers.{number_told}
use Rattle.sg_rows_lists.proofs.divisors.gcd_of.Goals as goal

pub returns : goal.returns
returns c =
    let zs = c.args.zs.now in
    let g = c.common_divisor.result in
    let small : g < 2 ^ 64 = search rules in
    let some : zs ≡ [] → ⊥ = λ e. search rules in
    number_told (IsGcdOfAll zs) zs g c.integer.result some c.common_divisor.ensures (c.integer.ensures (pos g) (c.signed.ensures g (small, refl)))
