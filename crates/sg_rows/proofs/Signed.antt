-- Signed numbers, as calls are given them.
use Rattle.std.proofs.Common.{◌≡◌, ℤ, false, subst, arith}
use Rattle.std.specs.Prelude.{◌≤ℤ◌, FitsSigned}
use Rattle.std.specs.Int.{w64}
use mir.Val.{to_z, of_z}
use lib.Signed.{lt_z}
use Rattle.std.proofs.lemmas.Int.{ints, to_z-of_z}

-- what holds of the numbers as calls are given them holds of the numbers
pub of_bits : (P : ℤ → ℤ → Type 0) (x y : ℤ) → FitsSigned w64 x → FitsSigned w64 y → P (to_z w64 (of_z w64 x)) (to_z w64 (of_z w64 y)) → P x y
of_bits P x y f g h = subst (λ z. P x z) (to_z-of_z w64 y g) (subst (λ z. P z (to_z w64 (of_z w64 y))) (to_z-of_z w64 x f) h)

pub of_bits_right : (P : ℤ → Type 0) (x : ℤ) → FitsSigned w64 x → P (to_z w64 (of_z w64 x)) → P x
of_bits_right P x f h = subst P (to_z-of_z w64 x f) h

-- a test that failed
pub not_below : (a b : ℤ) → lt_z a b ≡ false → b ≤ℤ a
not_below a b h = grind (arith, ints)
