-- Intersections and quotients as replies.
use Rattle.std.proofs.Common.{◌≡◌, ℕ, ℤ, pos, negsuc, ◌*ℤ◌, ◌<◌, List, false, nat_abs, sym, subst, arith}
use Rattle.std.specs.Prelude.{◌≤ℤ◌, ◌<ℤ◌, FitsSigned}
use Rattle.std.specs.Int.{w64}
use Rattle.std.proofs.lemmas.Int.{ints, to_z-of_z}
use lib.Signed.{lt_z}
use mir.Val.{to_z, of_z}
use Rattle.sg_defs.specs.Membership.{IsIntegerMember}
use Rattle.sg_apery.specs.Conditions.{IsInBoth, IsInQuotient, IsQuotientRefused}
use Rattle.sg_apery.specs.Fit.{IsSizeFault}
use Rattle.sg_rows.proofs.Signed.{not_below}
use Rattle.sg_rows_constructors.proofs.Serving.{Serves, unfit}

pub intersection_serves : (G H : List ℕ) → Serves (IsInBoth G H) (IsInBoth G H) (Unit {0}) (IsSizeFault (IsInBoth G H)) ⊥ ⊥
intersection_serves G H = record {
  small = λ n. n;
  same = λ n. ((λ h. h), (λ h. h));
  good = λ M g u n. n;
  refused = λ n. n;
  large = λ t. ((λ n. n), unfit (IsInBoth G H) (IsInBoth G H) (λ n. ((λ h. h), (λ h. h))) t);
}

abbrev QuotientServes : List ℕ → ℤ → ℕ → Type 0
QuotientServes G d m = Serves (λ n. IsIntegerMember G (d *ℤ pos n)) (IsInQuotient G m) (0 < m) (IsQuotientRefused G m) ⊥ (d <ℤ pos 1)

serves_itself : (G : List ℕ) (d : ℤ) → pos 1 ≤ℤ d → QuotientServes G d (nat_abs d)
serves_itself G (pos m) from = record {
  small = λ n. n;
  same = λ n. ((λ h. h), (λ h. h));
  good = λ M g positive below. omega (arith, ints, from, below);
  refused = λ e. absurd (omega (arith, ints, from, e));
  large = λ t. ((λ below. omega (arith, ints, from, below)), unfit (IsInQuotient G m) (IsInQuotient G m) (λ n. ((λ h. h), (λ h. h))) t.1);
}
serves_itself G (negsuc m) from = absurd (omega (arith, ints, from))

pub quotient_serves : (G : List ℕ) (d : ℤ) → FitsSigned w64 d → lt_z (to_z w64 (of_z w64 d)) (pos 1) ≡ false → QuotientServes G d (nat_abs (to_z w64 (of_z w64 d)))
quotient_serves G d fit h =
    let same = to_z-of_z w64 d fit in
    let from = not_below d (pos 1) (subst (λ z. lt_z z (pos 1) ≡ false) same h) in
    subst (λ z. QuotientServes G d (nat_abs z)) (sym same) (serves_itself G d from)
