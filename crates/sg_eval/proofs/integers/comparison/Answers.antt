use Rattle.std.proofs.Common.{◌≡◌, sym, subst, rules}
use Rattle.std.specs.Prelude.{IsTrue, ◌↔◌, ◌<ℤ◌, ◌≤ℤ◌}
use Rattle.std.specs.Int.{w64}
use mathlib.Core.Bool.{not}
use lib.Dec.{eqb}
use lib.Signed.{lt_z, le_z}
use mir.Val.{to_z, of_z}
use Rattle.sg_eval.specs.AtOnce.{Compares}
use Rattle.sg_eval.proofs.Computed.{equal_there, unequal_there, less_there, at_most_there, greater_there, at_least_there}
use Rattle.sg_eval.proofs.integers.comparison.Goals as goal

pub returns-in-Eq : goal.returns-in-Eq
returns-in-Eq c =
    let x = c.args.x in
    let y = c.args.y in
    let b = eqb (of_z w64 x) (of_z w64 y) in
    let told : IsTrue b ↔ (x ≡ y) = search rules in
    subst (λ rel. Compares rel x y b) (sym c.in-Eq.is) (equal_there b x y told)

pub returns-in-Ne : goal.returns-in-Ne
returns-in-Ne c =
    let x = c.args.x in
    let y = c.args.y in
    let b = not (eqb (of_z w64 x) (of_z w64 y)) in
    let told : IsTrue b ↔ (x ≡ y → ⊥) = search rules in
    subst (λ rel. Compares rel x y b) (sym c.in-Ne.is) (unequal_there b x y told)

pub returns-in-Lt : goal.returns-in-Lt
returns-in-Lt c =
    let x = c.args.x in
    let y = c.args.y in
    let b = lt_z (to_z w64 (of_z w64 x)) (to_z w64 (of_z w64 y)) in
    let told : IsTrue b ↔ (x <ℤ y) = search rules in
    subst (λ rel. Compares rel x y b) (sym c.in-Lt.is) (less_there b x y told)

pub returns-in-Le : goal.returns-in-Le
returns-in-Le c =
    let x = c.args.x in
    let y = c.args.y in
    let b = le_z (to_z w64 (of_z w64 x)) (to_z w64 (of_z w64 y)) in
    let told : IsTrue b ↔ (x ≤ℤ y) = search rules in
    subst (λ rel. Compares rel x y b) (sym c.in-Le.is) (at_most_there b x y told)

pub returns-in-Gt : goal.returns-in-Gt
returns-in-Gt c =
    let x = c.args.x in
    let y = c.args.y in
    let b = lt_z (to_z w64 (of_z w64 y)) (to_z w64 (of_z w64 x)) in
    let told : IsTrue b ↔ (y <ℤ x) = search rules in
    subst (λ rel. Compares rel x y b) (sym c.in-Gt.is) (greater_there b x y told)

pub returns-in-Ge : goal.returns-in-Ge
returns-in-Ge c =
    let x = c.args.x in
    let y = c.args.y in
    let b = le_z (to_z w64 (of_z w64 y)) (to_z w64 (of_z w64 x)) in
    let told : IsTrue b ↔ (y ≤ℤ x) = search rules in
    subst (λ rel. Compares rel x y b) (sym c.in-Ge.is) (at_least_there b x y told)
