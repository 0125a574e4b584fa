use Rattle.std.proofs.Common.{refl, arith}
use Rattle.sg_defs.specs.Invariants.{IsFundamentalGap}
use Rattle.sg_invar.proofs.ListingLemmas.{lists-push, lists-skip, lists-all}
use Rattle.sg_invar.proofs.GapLemmas.{gap-below_conductor}
use Rattle.sg_invar.proofs.gap_lists.fundamental_gaps.Goals as goal
use Rattle.sg_invar.proofs.gap_lists.fundamental_gaps.Goals.{then-is_fundamental_gap+in_ok-push, else-is_fundamental_gap}

pub loop-n-preserved : goal.loop-n-preserved
loop-n-preserved c =
    let P = IsFundamentalGap c.args.table.now in
    let n = c.loop-n.n in
    let before = c.loop-n.fundamental in
    elim c.if-is_fundamental_gap.branch [
      | then-is_fundamental_gap+in_ok-push w ↦
          rw (w.fundamental-is, w.in_ok-push.ensures.ok) (lists-push P n before (w.if-is_fundamental_gap.ensures.0 refl) c.loop-n.invariant)
      | else-is_fundamental_gap w ↦ rw w.fundamental-is (lists-skip P n before (λ h. absurd (let f = w.if-is_fundamental_gap.ensures.1 h in cc)) c.loop-n.invariant)
    ]

pub returns : goal.returns
returns c =
    let G = c.args.table.now in
    let last = c.conductor-n-end.result in
    lists-all (IsFundamentalGap G) c.loop-n.n c.loop-n.fundamental
    (λ x h. omega (arith, gap-below_conductor G last x c.conductor-n-end.ensures.conductor h.gap)) c.loop-n.invariant
