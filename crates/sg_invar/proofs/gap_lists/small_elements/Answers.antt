use Rattle.std.proofs.Common.{ℕ, ◌<◌, ◌≤◌, ◌↔◌, refl, arith}
use Rattle.sg_defs.specs.Membership.{IsMember}
use Rattle.sg_invar.proofs.ListingLemmas.{lists-push, lists-skip, lists-same}
use Rattle.sg_invar.proofs.gap_lists.small_elements.Goals as goal
use Rattle.sg_invar.proofs.gap_lists.small_elements.Goals.{then-contains_natural+in_ok-push, else-contains_natural}

pub loop-n-preserved : goal.loop-n-preserved
loop-n-preserved c =
    let P = IsMember c.args.table.now in
    let n = c.loop-n.n in
    let before = c.loop-n.members in
    elim c.if-contains_natural.branch [
      | then-contains_natural+in_ok-push w ↦
          rw (w.members-is, w.in_ok-push.ensures.ok) (lists-push P n before (w.if-contains_natural.ensures.0 refl) c.loop-n.invariant)
      | else-contains_natural w ↦ rw w.members-is (lists-skip P n before (λ h. absurd (let f = w.if-contains_natural.ensures.1 h in cc)) c.loop-n.invariant)
    ]

pub returns : goal.returns
returns c =
    let G = c.args.table.now in
    let last = c.conductor-n-end.result in
    let up_to : (x : ℕ) → ((x < c.loop-n.n) × IsMember G x) ↔ (IsMember G x × (x ≤ last)) =
    λ x. ((λ h. (h.1, omega (arith, h.0))), (λ h. (omega (arith, h.1), h.0))) in
    (last, c.conductor-n-end.ensures.conductor, lists-same (λ x. (x < c.loop-n.n) × IsMember G x) (λ x. IsMember G x × (x ≤ last)) c.loop-n.members up_to c.loop-n.invariant)
