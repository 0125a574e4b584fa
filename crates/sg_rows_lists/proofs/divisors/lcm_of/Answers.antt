use Rattle.std.proofs.Common.{◌≡◌, ℕ, pos, [], rules}
use Rattle.sg_rows_lists.specs.Integers.{IsLcmOfAll}
use Rattle.sg_rows_lists.proofs.Dividing.{lcm_exists}
use Rattle.sg_rows_lists.proofs.Numbers.{number_told}
use Rattle.sg_rows_lists.proofs.divisors.lcm_of.Goals as goal

pub returns : goal.returns
returns c =
    let zs = c.args.zs.now in
    let found : (m : ℕ) × IsLcmOfAll zs m = lcm_exists zs in
    let m = found.0 in
    let some : zs ≡ [] → ⊥ = λ e. search rules in
    number_told (IsLcmOfAll zs) zs m c.integer.result some found.1 (c.integer.ensures (pos m) (c.signed.ensures m (c.common_multiple.ensures m found.1)))
