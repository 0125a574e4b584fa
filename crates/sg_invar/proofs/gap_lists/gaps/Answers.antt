use Rattle.std.proofs.Common.{refl, arith}
use Rattle.sg_defs.specs.Invariants.{IsGap}
use Rattle.sg_invar.proofs.ListingLemmas.{lists-push, lists-skip, lists-all}
use Rattle.sg_invar.proofs.GapLemmas.{gap-below_conductor}
use Rattle.sg_invar.proofs.gap_lists.gaps.Goals as goal
use Rattle.sg_invar.proofs.gap_lists.gaps.Goals.{then-not-contains_natural+in_ok-push, else-not-contains_natural}

pub loop-n-preserved : goal.loop-n-preserved
loop-n-preserved c =
    let P = IsGap c.args.table.now in
    let n = c.loop-n.n in
    let before = c.loop-n.gaps in
    elim c.if-not-contains_natural.branch [
      | then-not-contains_natural+in_ok-push w ↦
          rw (w.gaps-is, w.in_ok-push.ensures.ok) (lists-push P n before (λ h. absurd (let f = w.if-not-contains_natural.ensures.1 h in cc)) c.loop-n.invariant)
      | else-not-contains_natural w ↦ rw w.gaps-is (lists-skip P n before (λ gap. gap (w.if-not-contains_natural.ensures.0 refl)) c.loop-n.invariant)
    ]

pub returns : goal.returns
returns c =
    let G = c.args.table.now in
    let last = c.conductor-n-end.result in
    lists-all (IsGap G) c.loop-n.n c.loop-n.gaps
    (λ x h. omega (arith, gap-below_conductor G last x c.conductor-n-end.ensures.conductor h)) c.loop-n.invariant
