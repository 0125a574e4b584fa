use Rattle.std.proofs.Common.{◌⊎◌, pos, nat_abs}
use Rattle.std.specs.Prelude.{◌<ℤ◌}
use Rattle.sg_apery.specs.Modular.{AreModular, IsModular, IsModularRefused}
use Rattle.sg_apery.specs.Limits.{MODULUS_LIMIT}
use Rattle.sg_rows_constructors.proofs.Serving.{settles}
use Rattle.sg_rows_constructors.proofs.ProportionLemmas.{modular_serves, seen}
use Rattle.sg_rows_constructors.proofs.proportions.modular.Goals as goal

pub returns : goal.returns
returns c =
    let a = c.args.a in
    let b = c.args.b in
    let m = nat_abs (seen a) in
    let n = nat_abs (seen b) in
    let made = c.modular in
    let serves = modular_serves a b c.ranges.a c.ranges.b c.if-b.false c.if-a-lt1.false c.if-b-lt1.false in
    settles (IsModular (nat_abs a) (nat_abs b)) (IsModular m n) (AreModular m n 1) (IsModularRefused m n) (pos MODULUS_LIMIT <ℤ b) ((a <ℤ pos 1) ⊎ (b <ℤ pos 1)) serves
    made.result c.settled.result c.settled.ensures made.ensures.generated made.ensures.accepted made.ensures.refused
