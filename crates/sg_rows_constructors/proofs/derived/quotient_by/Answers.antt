use Rattle.std.proofs.Common.{◌<◌, pos, ◌*ℤ◌, nat_abs}
use Rattle.std.specs.Prelude.{◌<ℤ◌}
use Rattle.std.specs.Int.{w64}
use mir.Val.{to_z, of_z}
use Rattle.sg_defs.specs.Membership.{IsIntegerMember}
use Rattle.sg_apery.specs.Conditions.{IsInQuotient, IsQuotientRefused}
use Rattle.sg_rows_constructors.proofs.Serving.{settles}
use Rattle.sg_rows_constructors.proofs.Deriving.{quotient_serves}
use Rattle.sg_rows_constructors.proofs.derived.quotient_by.Goals as goal

pub returns : goal.returns
returns c =
    let G = c.args.table.now in
    let d = c.args.divisor in
    let m = nat_abs (to_z w64 (of_z w64 d)) in
    let made = c.quotient in
    settles (λ n. IsIntegerMember G (d *ℤ pos n)) (IsInQuotient G m) (0 < m) (IsQuotientRefused G m) ⊥ (d <ℤ pos 1) (quotient_serves G d c.ranges.divisor c.if-divisor-lt1.false)
    made.result c.settled.result c.settled.ensures made.ensures.generated made.ensures.accepted made.ensures.refused
