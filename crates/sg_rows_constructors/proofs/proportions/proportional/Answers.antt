use Rattle.std.proofs.Common.{◌⊎◌, pos, nat_abs}
use Rattle.std.specs.Prelude.{◌<ℤ◌}
use Rattle.sg_apery.specs.Modular.{AreModular, IsProportional, IsProportionalRefused}
use Rattle.sg_apery.specs.Limits.{MODULUS_LIMIT}
use Rattle.sg_rows_constructors.proofs.Serving.{settles}
use Rattle.sg_rows_constructors.proofs.ProportionLemmas.{proportional_serves, seen}
use Rattle.sg_rows_constructors.proofs.proportions.proportional.Goals as goal

pub returns : goal.returns
returns c =
    let x = c.args.a in
    let y = c.args.b in
    let z = c.args.c in
    let m = nat_abs (seen x) in
    let n = nat_abs (seen y) in
    let k = nat_abs (seen z) in
    let made = c.prop_modular in
    let serves = proportional_serves x y c.ranges.a c.ranges.b c.if-b.false c.if-a-lt1.false c.if-b-lt1.false z c.ranges.c c.if-c-lt1.false in
    settles (IsProportional (nat_abs x) (nat_abs y) (nat_abs z)) (IsProportional m n k) (AreModular m n k) (IsProportionalRefused m n k) (pos MODULUS_LIMIT <ℤ y) ((x <ℤ pos 1) ⊎ (y <ℤ pos 1) ⊎ (z <ℤ pos 1)) serves
    made.result c.settled.result c.settled.ensures made.ensures.generated made.ensures.accepted made.ensures.refused
