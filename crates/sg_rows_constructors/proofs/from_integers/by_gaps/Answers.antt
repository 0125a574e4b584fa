use Rattle.std.proofs.Common.{◌∙◌}
use Rattle.sg_apery.specs.Conditions.{IsOutside, AreGapsRefused}
use Rattle.sg_rows_constructors.specs.Integers.{IsNoEntry, AreGaps}
use Rattle.sg_rows.proofs.Telling.{always}
use Rattle.sg_rows_constructors.proofs.Serving.{settles}
use Rattle.sg_rows_constructors.proofs.FromLists.{gaps_serve}
use Rattle.sg_rows_constructors.proofs.from_integers.by_gaps.Goals as goal

pub returns : goal.returns
returns c =
    let zs = c.args.zs.now in
    let list = c.deref.result.now in
    let made = c.from_gaps in
    let serves = gaps_serve zs list (c.deref.ensures.value ∙ c.in_ok-given.ensures) (c.are_positive.ensures.0 c.if-not-are_positive.false) in
    settles (IsNoEntry zs) (IsOutside list) (Unit {0}) (AreGapsRefused list) ⊥ (¬ AreGaps zs) serves
    made.result c.settled.result c.settled.ensures made.ensures.generated (always made.result) made.ensures.refused
