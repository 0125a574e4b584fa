use Rattle.std.proofs.Common.{refl, arith}
use Rattle.sg_defs.specs.Membership.{IsMember}
use Rattle.sg_classes.proofs.ListingLemmas.{lists-none, lists-push, lists-skip}
use Rattle.sg_omega.proofs.parts.members_upto.Goals as goal
use Rattle.sg_omega.proofs.parts.members_upto.Goals.{then-contains_natural+in_ok-push, else-contains_natural}

pub loop-v-init : goal.loop-v-init
loop-v-init c = rw c.new-members.ensures.items (lists-none (IsMember c.args.t.now))

pub loop-v-preserved : goal.loop-v-preserved
loop-v-preserved c =
    let P = IsMember c.args.t.now in
    let v = c.loop-v.v in
    let before = c.loop-v.members.items in
    elim c.if-contains_natural.branch [
      | then-contains_natural+in_ok-push w ↦
          rw (w.members-is, w.in_ok-push.ensures.items) (lists-push P v before (w.if-contains_natural.ensures.0 refl) c.loop-v.invariant)
      | else-contains_natural w ↦ rw w.members-is (lists-skip P v before (λ h. absurd (let f = w.if-contains_natural.ensures.1 h in cc)) c.loop-v.invariant)
    ]

pub returns : goal.returns
returns c v = (
  (λ there. let r = (c.loop-v.invariant.exactly v).0 there in (omega (arith, r.0, c.loop-v.auto.v-end), r.1)),
  (λ r. (c.loop-v.invariant.exactly v).1 (omega (arith, r.0, c.loop-v-test.false), r.1)),
)
