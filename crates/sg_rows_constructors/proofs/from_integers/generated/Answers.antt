use Rattle.std.proofs.Common.{◌∙◌}
use Rattle.sg_defs.specs.Membership.{IsMember}
use Rattle.sg_apery.specs.Generators.{AreAccepted, AreRefused}
use Rattle.sg_rows_constructors.specs.Integers.{AreBelow, Generate, naturals}
use Rattle.sg_rows_constructors.proofs.Serving.{settles}
use Rattle.sg_rows_constructors.proofs.Constructing.{generators_serve}
use Rattle.sg_rows_constructors.proofs.from_integers.generated.Goals as goal

pub returns : goal.returns
returns c =
    let zs = c.args.zs.now in
    let list = c.deref.result.now in
    let made = c.from_generators in
    let serves = generators_serve zs list (c.deref.ensures.value ∙ c.in_ok-given.ensures) (c.are_below.ensures.0 c.if-not-are_below.false) (c.are_positive.ensures.0 c.if-not-are_positive.false) in
    settles (IsMember (naturals zs)) (IsMember list) (AreAccepted list) (AreRefused list) (¬ AreBelow zs) (¬ Generate zs) serves
    made.result c.settled.result c.settled.ensures made.ensures.generated made.ensures.accepted made.ensures.refused
