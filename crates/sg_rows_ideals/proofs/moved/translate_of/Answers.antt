use Rattle.std.proofs.Common.{subst, rules, w64, to_z, of_z, FitsSigned}
use Rattle.std.proofs.lemmas.Int.{to_z-of_z}
use Rattle.sg_defs.specs.Ideals.{IsInTranslate}
use Rattle.sg_ideal.specs.Faults.{IsSizeFault}
use Rattle.sg_ideal.specs.Value.{IsIn}
use Rattle.sg_rows.specs.Made.{Tells}
use Rattle.sg_rows_ideals.specs.Rows.{translate_row}
use Rattle.sg_rows_ideals.proofs.Served.{own_serves}
use Rattle.sg_rows.proofs.Telling.{always}
use Rattle.sg_rows_ideals.proofs.Serving.{settles}
use Rattle.sg_rows_ideals.proofs.moved.translate_of.Goals as goal

pub returns : goal.returns
returns c =
    let x = c.args.by in
    let I = c.args.ideal.now in
    let P = IsInTranslate (to_z w64 (of_z w64 x)) (IsIn I) in
    let r = c.settled.result in
    let fit : FitsSigned w64 x = search rules in
    subst (λ y. Tells r (translate_row y I)) (to_z-of_z w64 x fit)
    (settles I.ambient P ⊥ ⊥ (Unit {0}) (IsSizeFault I.ambient P) (own_serves I.ambient P) c.translate.result r c.settled.ensures c.translate.ensures.made (always c.translate.result) c.translate.ensures.refused)
