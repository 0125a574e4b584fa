-- Translates by their tables.
use Rattle.std.proofs.Common.{◌≡◌, ℕ, ◌↔◌, List, get_or, sym, subst, arith}
use Rattle.std.specs.Prelude.{ℤ, pos, ◌+ℤ◌, ◌-ℤ◌}
use Rattle.std.proofs.lemmas.Int.{ints}
use Rattle.sg_defs.specs.Membership.{AtNatural}
use Rattle.sg_defs.specs.Ideals.{IsInTranslate, RelativeIdeal}
use Rattle.sg_classes.specs.Classes.{IsAboveEntry}
use Rattle.sg_ideal.specs.Value.{IsIn}
use Rattle.sg_ideal.specs.Classes.{IsFrom, IsKept}

-- the translate by the same table
pub translate-same : (J : RelativeIdeal) (t : List ℕ) (x : ℤ) → IsKept J.ambient J.generators t → (y : ℤ) → IsInTranslate x (IsIn J) y ↔ IsFrom (x +ℤ get_or J.generators 0 (pos 0)) t y
translate-same J t x k y =
    let a = get_or J.generators 0 (pos 0) in
    let e : (y -ℤ x) -ℤ a ≡ y -ℤ (x +ℤ a) = omega (arith, ints) in
    let both = k.generates.same (y -ℤ x) in (
      (λ m. subst (AtNatural (IsAboveEntry t)) e (both.1 m)),
      (λ f. both.0 (subst (AtNatural (IsAboveEntry t)) (sym e) f)),
    )
