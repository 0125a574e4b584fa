use Rattle.sg_apery.specs.Conditions.{IsInBoth}
use Rattle.sg_apery.specs.Fit.{IsSizeFault}
use Rattle.sg_rows.proofs.Telling.{always}
use Rattle.sg_rows_constructors.proofs.Serving.{settles}
use Rattle.sg_rows_constructors.proofs.Deriving.{intersection_serves}
use Rattle.sg_rows_constructors.proofs.derived.intersection.Goals as goal

pub returns : goal.returns
returns c =
    let G = c.args.one.now in
    let H = c.args.other.now in
    let made = c.intersect in
    settles (IsInBoth G H) (IsInBoth G H) (Unit {0}) (IsSizeFault (IsInBoth G H)) ⊥ ⊥ (intersection_serves G H) made.result c.settled.result c.settled.ensures made.ensures.generated (always made.result) made.ensures.refused
