use Rattle.std.proofs.Common.{◌∙◌}
use Rattle.sg_apery.specs.Fundamental.{AreWithin as AreWithinNaturals, DividesNone, AreFundamentalRefused}
use Rattle.sg_rows_constructors.specs.Integers.{naturals, AreWithin, AreFundamental}
use Rattle.sg_rows_constructors.proofs.Serving.{settles}
use Rattle.sg_rows_constructors.proofs.Dividing.{fundamental_serves}
use Rattle.sg_rows_constructors.proofs.from_integers.by_fundamental_gaps.Goals as goal

pub returns : goal.returns
returns c =
    let zs = c.args.zs.now in
    let list = c.deref.result.now in
    let made = c.from_fundamental_gaps in
    let serves = fundamental_serves zs list (c.deref.ensures.value ∙ c.in_ok-given.ensures) (c.are_within.ensures.0 c.if-not-are_within.false) (c.are_positive.ensures.0 c.if-not-are_positive.false) in
    settles (DividesNone (naturals zs)) (DividesNone list) (AreWithinNaturals list) (AreFundamentalRefused list) (¬ AreWithin zs) (¬ AreFundamental zs) serves
    made.result c.settled.result c.settled.ensures made.ensures.generated made.ensures.accepted made.ensures.refused
