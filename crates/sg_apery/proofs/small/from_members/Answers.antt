use Rattle.std.proofs.lemmas.Result.{IfOk-weaker, IfErr-weaker}
use Rattle.sg_defs.specs.Membership.{Generates}
use Rattle.sg_classes.proofs.EntryLemmas.{generates-iff}
use Rattle.sg_small.specs.Sets.{IsInSmall}
use Rattle.sg_apery.specs.Fit.{IsSizeFault}
use Rattle.sg_apery.proofs.CommonLemmas.{size_fault-iff}
use Rattle.sg_apery.proofs.SizeLemmas.{closed-iff}
use Rattle.sg_apery.proofs.small.from_members.Goals as goal

pub from_closed-requires-clause-closed : goal.from_closed-requires-clause-closed
from_closed-requires-clause-closed c =
    let P = IsInSmall c.args.list.now in
    let Q = IsInSmall c.up_to_conductor.result.now in
    let same = c.up_to_conductor.ensures.same in
    closed-iff Q P (λ n. ((same n).1, (same n).0)) c.requires.closed

pub returns-clause-generated : goal.returns-clause-generated
returns-clause-generated c =
    let P = IsInSmall c.args.list.now in
    let Q = IsInSmall c.up_to_conductor.result.now in
    IfOk-weaker c.from_closed.result (λ m. Generates Q m) (λ m. Generates P m) (generates-iff P Q c.up_to_conductor.ensures.same) c.from_closed.ensures.generated

pub returns-clause-refused : goal.returns-clause-refused
returns-clause-refused c =
    let P = IsInSmall c.args.list.now in
    let Q = IsInSmall c.up_to_conductor.result.now in
    IfErr-weaker c.from_closed.result (IsSizeFault Q) (IsSizeFault P) (size_fault-iff P Q c.up_to_conductor.ensures.same) c.from_closed.ensures.refused
