use Rattle.std.proofs.Common.{◌∙◌}
use Rattle.sg_apery.specs.Classes.{IsAboveEntry, IsKunz}
use Rattle.sg_apery.specs.Conditions.{IsAperyRefused}
use Rattle.sg_rows_constructors.specs.Integers.{naturals, AreApery}
use Rattle.sg_rows_constructors.proofs.Serving.{settles}
use Rattle.sg_rows_constructors.proofs.FromLists.{apery_serves}
use Rattle.sg_rows_constructors.proofs.from_integers.by_apery_list.Goals as goal

pub returns : goal.returns
returns c =
    let zs = c.args.zs.now in
    let list = c.deref.result.now in
    let made = c.from_apery in
    let serves = apery_serves zs list (c.deref.ensures.value ∙ c.in_ok-given.ensures) (c.are_natural.ensures.0 c.if-not-are_natural.false) in
    settles (IsAboveEntry (naturals zs)) (IsAboveEntry list) (IsKunz list) (IsAperyRefused list) ⊥ (¬ AreApery zs) serves
    made.result c.settled.result c.settled.ensures made.ensures.generated made.ensures.accepted made.ensures.refused
