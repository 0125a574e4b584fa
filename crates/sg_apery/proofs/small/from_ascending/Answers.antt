use Rattle.std.proofs.lemmas.Result.{IfOk-weaker, IfErr-weaker}
use Rattle.sg_defs.specs.Membership.{Generates}
use Rattle.sg_classes.proofs.EntryLemmas.{generates-iff}
use Rattle.sg_small.specs.Sets.{IsClosedSet, IsInSmall}
use Rattle.sg_apery.specs.Conditions.{IsClosedRefused}
use Rattle.sg_apery.specs.Fit.{IsSizeFault}
use Rattle.sg_apery.proofs.SizeLemmas.{not_closed-iff, closed-iff, size_closed}
use Rattle.sg_apery.proofs.small.from_ascending.Goals as goal

pub returns-clause-generated : goal.returns-clause-generated
returns-clause-generated c =
    let P = IsInSmall c.args.list.now in
    let Q = IsInSmall c.up_to_conductor-elements.result.now in
    IfOk-weaker c.from_closed.result (λ m. Generates Q m) (λ m. Generates P m) (generates-iff P Q c.up_to_conductor-elements.ensures.same) c.from_closed.ensures.generated

pub returns-clause-refused : goal.returns-clause-refused
returns-clause-refused c =
    let P = IsInSmall c.args.list.now in
    let Q = IsInSmall c.up_to_conductor-elements.result.now in
    IfErr-weaker c.from_closed.result (IsSizeFault Q) (IsClosedRefused P) (size_closed P Q c.up_to_conductor-elements.ensures.same (c.in_ok-is_closed.ensures.closed c.if-not-branch.false)) c.from_closed.ensures.refused

pub returns-then-not-branch-clause-refused : goal.returns-then-not-branch-clause-refused
returns-then-not-branch-clause-refused c =
    let P = IsInSmall c.args.list.now in
    let Q = IsInSmall c.up_to_conductor-elements.result.now in
    not_closed-iff P Q c.up_to_conductor-elements.ensures.same (c.in_ok-is_closed.ensures.broken c.if-not-branch.true)

pub from_closed-requires-clause-closed : goal.from_closed-requires-clause-closed
from_closed-requires-clause-closed c = c.in_ok-is_closed.ensures.closed c.if-not-branch.false

pub returns-clause-closed : goal.returns-clause-closed
returns-clause-closed c =
    let P = IsInSmall c.args.list.now in
    let Q = IsInSmall c.up_to_conductor-elements.result.now in
    IfOk-weaker c.from_closed.result (λ m. Generates Q m) (λ m. IsClosedSet P)
    (λ m g. closed-iff P Q c.up_to_conductor-elements.ensures.same (c.in_ok-is_closed.ensures.closed c.if-not-branch.false)) c.from_closed.ensures.generated
