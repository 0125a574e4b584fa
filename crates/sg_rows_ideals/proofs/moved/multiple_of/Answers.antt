use Rattle.std.proofs.Common.{◌<◌, subst, pos, rules, w64, to_z, of_z, FitsSigned}
use Rattle.std.specs.Prelude.{◌<ℤ◌, unsigned_abs}
use Rattle.std.proofs.lemmas.Int.{to_z-of_z}
use Rattle.sg_defs.specs.Ideals.{IsInMultiple}
use Rattle.sg_ideal.specs.Faults.{IsMultipleRefused}
use Rattle.sg_ideal.specs.Value.{IsIn}
use Rattle.sg_rows.specs.Made.{Tells}
use Rattle.sg_rows_ideals.specs.Rows.{multiple_row}
use Rattle.sg_rows_ideals.proofs.Served.{multiple_serves}
use Rattle.sg_rows_ideals.proofs.Serving.{settles}
use Rattle.sg_rows_ideals.proofs.moved.multiple_of.Goals as goal

pub returns : goal.returns
returns c =
    let k = c.args.factor in
    let z = to_z w64 (of_z w64 k) in
    let m = unsigned_abs z in
    let I = c.args.ideal.now in
    let P = IsInMultiple m (IsIn I) in
    let r = c.settled.result in
    let fit : FitsSigned w64 k = search rules in
    subst (λ y. Tells r (multiple_row y I)) (to_z-of_z w64 k fit)
    (settles I.ambient P ⊥ (z <ℤ pos 1) (0 < m) (IsMultipleRefused m I.ambient P) (multiple_serves I z c.if-factor-lt1.false) c.multiple.result r c.settled.ensures c.multiple.ensures.made c.multiple.ensures.positive c.multiple.ensures.refused)
