use Rattle.std.proofs.Common.{◌≡◌, ◌<◌, ◌^◌, ℕ, ℤ, List, pos, get_or, ap, sym, ◌∙◌, subst, refl, arith, rules}
use Rattle.std.specs.Prelude.{FitsSigned, SomeIff, unsigned_abs}
use Rattle.std.specs.Int.{w64}
use mir.Val.{to_z, of_z}
use Rattle.std.proofs.lemmas.Int.{to_z-of_z}
use Rattle.sg_nat.specs.Arithmetic.{IsLcm, LcmReaches}
use Rattle.sg_rows_lists.proofs.Dividing.{lcm_first, lcm_more, lcm_last, lcm_past}
use Rattle.sg_rows_lists.proofs.divisors.multiple_of_others.Goals as goal

-- the size that was taken is that of the entry
size_taken : (zs : List ℤ) (i n : ℕ) → FitsSigned w64 (get_or zs i (pos 0)) → n ≡ unsigned_abs (to_z w64 (of_z w64 (get_or zs i (pos 0)))) → n ≡ unsigned_abs (get_or zs i (pos 0))
size_taken zs i n fit is = is ∙ ap unsigned_abs (to_z-of_z w64 (get_or zs i (pos 0)) fit)

pub loop-z-init : goal.loop-z-init
loop-z-init c = record { small = omega arith; rest = lcm_first c.args.zs.now }

pub returns-in_err-multiple : goal.returns-in_err-multiple
returns-in_err-multiple c = λ m is.
    let fit : FitsSigned w64 (get_or c.args.zs.now c.loop-z.z-index (pos 0)) = search rules in
    let size = size_taken c.args.zs.now c.loop-z.z-index c.unsigned_abs.result fit c.unsigned_abs.ensures.value in
    let reaches = subst (λ n. LcmReaches c.loop-z.multiple n (2 ^ 64)) size (c.in_err-multiple.ensures.none.0 refl) in
    subst (λ o. SomeIff o (m < 2 ^ 64) m) (sym c.from_residual.ensures)
    (lcm_past c.args.zs.now c.loop-z.z-index c.loop-z.multiple m c.loop-z-test.true c.requires is (c.loop-z.invariant.rest m is) reaches)

pub loop-z-preserved : goal.loop-z-preserved
loop-z-preserved c =
    let fit : FitsSigned w64 (get_or c.args.zs.now c.loop-z.z-index (pos 0)) = search rules in
    let size = size_taken c.args.zs.now c.loop-z.z-index c.unsigned_abs.result fit c.unsigned_abs.ensures.value in
    let found = subst (λ n. IsLcm c.loop-z.multiple n c.in_ok-multiple.multiple) size c.in_ok-multiple.ensures.value in
    record {
      small = search rules;
      rest = λ m is. lcm_more c.args.zs.now c.loop-z.z-index c.loop-z.multiple c.in_ok-multiple.multiple m c.loop-z-test.true found (c.loop-z.invariant.rest m is);
    }

pub returns : goal.returns
returns c m is =
    let same = lcm_last c.args.zs.now c.loop-z.z-index c.loop-z.multiple m c.loop-z-test.false (c.loop-z.invariant.rest m is) in
    (subst (λ n. n < 2 ^ 64) same c.loop-z.invariant.small, same)
