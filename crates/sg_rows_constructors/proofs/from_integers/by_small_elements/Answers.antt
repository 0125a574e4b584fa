use Rattle.std.proofs.Common.{◌∙◌}
use Rattle.sg_apery.specs.Conditions.{IsInSmall, AreSmallAccepted, AreSmallRefused}
use Rattle.sg_rows_constructors.specs.Integers.{IsEntryOrAbove, AreSmallElements}
use Rattle.sg_rows_constructors.proofs.Serving.{settles}
use Rattle.sg_rows_constructors.proofs.FromLists.{small_serve}
use Rattle.sg_rows_constructors.proofs.from_integers.by_small_elements.Goals as goal

pub returns : goal.returns
returns c =
    let zs = c.args.zs.now in
    let list = c.deref.result.now in
    let made = c.from_small_elements in
    let serves = small_serve zs list (c.deref.ensures.value ∙ c.in_ok-given.ensures) (c.are_natural.ensures.0 c.if-not-are_natural.false) in
    settles (IsEntryOrAbove zs) (IsInSmall list) (AreSmallAccepted list) (AreSmallRefused list) ⊥ (¬ AreSmallElements zs) serves
    made.result c.settled.result c.settled.ensures made.ensures.generated made.ensures.accepted made.ensures.refused
