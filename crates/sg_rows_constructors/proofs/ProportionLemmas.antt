-- Modular and proportionally modular semigroups as replies.
use Rattle.std.proofs.Common.{◌≡◌, ◌<◌, ◌⊎◌, ℕ, ℤ, pos, negsuc, nat_abs, false, inl, inr, sym, subst, arith}
use Rattle.std.specs.Prelude.{◌≤ℤ◌, ◌<ℤ◌, FitsSigned}
use Rattle.std.specs.Int.{w64}
use Rattle.std.proofs.lemmas.Int.{ints, to_z-of_z}
use lib.Signed.{lt_z}
use mir.Val.{to_z, of_z}
use Rattle.sg_apery.specs.Modular.{AreModular, IsModular, IsModularRefused, IsProportional, IsProportionalRefused}
use Rattle.sg_apery.specs.Limits.{MODULUS_LIMIT}
use Rattle.sg_rows.proofs.Signed.{not_below}
use Rattle.sg_rows_constructors.proofs.Serving.{Serves, unfit}

not_zero : (z : ℤ) → pos 1 ≤ℤ z → nat_abs z ≡ 0 → ⊥
not_zero (pos n) from e = omega (arith, ints, from, e)
not_zero (negsuc n) from e = absurd (omega (arith, ints, from))

not_past : (z : ℤ) → pos 1 ≤ℤ z → z ≤ℤ pos MODULUS_LIMIT → MODULUS_LIMIT < nat_abs z → ⊥
not_past (pos n) from upto past = omega (arith, ints, upto, past)
not_past (negsuc n) from upto past = absurd (omega (arith, ints, from))

clash : (z : ℤ) → pos 1 ≤ℤ z → z <ℤ pos 1 → ⊥
clash z from below = omega (arith, ints, from, below)

-- an integer as a call sees it
abbrev pub seen : ℤ → ℤ
seen z = to_z w64 (of_z w64 z)

from_one : (z : ℤ) → FitsSigned w64 z → lt_z (seen z) (pos 1) ≡ false → pos 1 ≤ℤ z
from_one z fit h = not_below z (pos 1) (subst (λ y. lt_z y (pos 1) ≡ false) (to_z-of_z w64 z fit) h)

up_to_limit : (z : ℤ) → FitsSigned w64 z → lt_z (pos MODULUS_LIMIT) (seen z) ≡ false → z ≤ℤ pos MODULUS_LIMIT
up_to_limit z fit h = not_below (pos MODULUS_LIMIT) z (subst (λ y. lt_z (pos MODULUS_LIMIT) y ≡ false) (to_z-of_z w64 z fit) h)

module _ (a b : ℤ) (fa : FitsSigned w64 a) (fb : FitsSigned w64 b) (upto : lt_z (pos MODULUS_LIMIT) (seen b) ≡ false) (pa : lt_z (seen a) (pos 1) ≡ false) (pb : lt_z (seen b) (pos 1) ≡ false) where
  abbrev ModularServes : ℕ → ℕ → Type 0
  ModularServes m n = Serves (IsModular (nat_abs a) (nat_abs b)) (IsModular m n) (AreModular m n 1) (IsModularRefused m n) (pos MODULUS_LIMIT <ℤ b) ((a <ℤ pos 1) ⊎ (b <ℤ pos 1))

  first : pos 1 ≤ℤ a
  first = from_one a fa pa

  second : pos 1 ≤ℤ b
  second = from_one b fb pb

  within : b ≤ℤ pos MODULUS_LIMIT
  within = up_to_limit b fb upto

  not_bad : (a <ℤ pos 1) ⊎ (b <ℤ pos 1) → ⊥
  not_bad (inl h) = clash a first h
  not_bad (inr h) = clash b second h

  modular_itself : ModularServes (nat_abs a) (nat_abs b)
  modular_itself = record {
    small = λ past. omega (arith, ints, within, past);
    same = λ n. ((λ h. h), (λ h. h));
    good = λ G g ok. not_bad;
    refused = λ h. elim h.1 [ inl e ↦ absurd (not_zero a first e) | inr e ↦ absurd (not_zero b second e) ];
    large = λ h. elim h [
      | inl past ↦ absurd (not_past b second within past)
      | inr t ↦ (not_bad, unfit (IsModular (nat_abs a) (nat_abs b)) (IsModular (nat_abs a) (nat_abs b)) (λ n. ((λ k. k), (λ k. k))) t.1)
    ];
  }

  pub modular_serves : ModularServes (nat_abs (seen a)) (nat_abs (seen b))
  modular_serves =
      subst (λ y. ModularServes (nat_abs (seen a)) (nat_abs y)) (sym (to_z-of_z w64 b fb))
      (subst (λ x. ModularServes (nat_abs x) (nat_abs b)) (sym (to_z-of_z w64 a fa)) modular_itself)

  module _ (c : ℤ) (fc : FitsSigned w64 c) (pc : lt_z (seen c) (pos 1) ≡ false) where
    abbrev ProportionalServes : ℕ → ℕ → ℕ → Type 0
    ProportionalServes m n k =
        Serves (IsProportional (nat_abs a) (nat_abs b) (nat_abs c)) (IsProportional m n k) (AreModular m n k) (IsProportionalRefused m n k) (pos MODULUS_LIMIT <ℤ b)
        ((a <ℤ pos 1) ⊎ (b <ℤ pos 1) ⊎ (c <ℤ pos 1))

    third : pos 1 ≤ℤ c
    third = from_one c fc pc

    not_bad_either : (a <ℤ pos 1) ⊎ (b <ℤ pos 1) ⊎ (c <ℤ pos 1) → ⊥
    not_bad_either (inl h) = clash a first h
    not_bad_either (inr (inl h)) = clash b second h
    not_bad_either (inr (inr h)) = clash c third h

    not_zero_either : (nat_abs a ≡ 0) ⊎ (nat_abs b ≡ 0) ⊎ (nat_abs c ≡ 0) → ⊥
    not_zero_either (inl e) = not_zero a first e
    not_zero_either (inr (inl e)) = not_zero b second e
    not_zero_either (inr (inr e)) = not_zero c third e

    proportional_itself : ProportionalServes (nat_abs a) (nat_abs b) (nat_abs c)
    proportional_itself = record {
      small = λ past. omega (arith, ints, within, past);
      same = λ n. ((λ h. h), (λ h. h));
      good = λ G g ok. not_bad_either;
      refused = λ h. absurd (not_zero_either h.1);
      large = λ h. elim h [
        | inl past ↦ absurd (not_past b second within past)
        | inr t ↦ (not_bad_either, unfit (IsProportional (nat_abs a) (nat_abs b) (nat_abs c)) (IsProportional (nat_abs a) (nat_abs b) (nat_abs c)) (λ n. ((λ k. k), (λ k. k))) t.1)
      ];
    }

    pub proportional_serves : ProportionalServes (nat_abs (seen a)) (nat_abs (seen b)) (nat_abs (seen c))
    proportional_serves =
        subst (λ z. ProportionalServes (nat_abs (seen a)) (nat_abs (seen b)) (nat_abs z)) (sym (to_z-of_z w64 c fc))
        (subst (λ y. ProportionalServes (nat_abs (seen a)) (nat_abs y) (nat_abs c)) (sym (to_z-of_z w64 b fb))
        (subst (λ x. ProportionalServes (nat_abs x) (nat_abs b) (nat_abs c)) (sym (to_z-of_z w64 a fa)) proportional_itself))
