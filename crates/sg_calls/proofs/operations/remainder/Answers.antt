use Rattle.std.proofs.Common.{◌≡◌, pos, sym, ◌∙◌, subst, rules}
use Rattle.std.specs.Prelude.{FitsSigned}
use Rattle.std.specs.Int.{w64, int_rem_euclid}
use Rattle.std.proofs.lemmas.Int.{to_z-of_z}
use Rattle.sg_rows.proofs.Signed.{of_bits}
use Rattle.sg_calls.specs.Remainders.{IsRemainder}
use Rattle.sg_calls.proofs.Remainders.{remainder_is}
use Rattle.sg_calls.proofs.operations.remainder.Goals as goal

pub returns : goal.returns
returns c =
    let x = c.args.x in
    let y = c.args.y in
    let r = c.wrapping_rem_euclid.result in
    let fit : FitsSigned w64 r = search rules in
    let is : r ≡ int_rem_euclid x y = of_bits (λ a b. r ≡ int_rem_euclid a b) x y c.ranges.x c.ranges.y c.wrapping_rem_euclid.ensures in
    let nonzero : y ≡ pos 0 → ⊥ = search rules in
    subst (IsRemainder x y) (sym is ∙ sym (to_z-of_z w64 r fit)) (remainder_is x y nonzero)
