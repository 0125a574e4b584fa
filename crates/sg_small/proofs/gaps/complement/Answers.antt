use Rattle.std.proofs.Common.{◌≡◌, ◌+◌, ◌*◌, length, subst, arith}
use Rattle.sg_small.specs.Small.{IsComplement}
use Rattle.sg_small.proofs.ComplementLemmas.{complement-push, complement-skip, complement-small, complement-same}
use Rattle.sg_small.proofs.gaps.complement.Goals as goal
use Rattle.sg_small.proofs.gaps.complement.Goals.{then-stands_at, else-stands_at+in_ok-push}

pub loop-n-preserved : goal.loop-n-preserved
loop-n-preserved c =
    let gaps = c.args.gaps.now in
    let list = c.loop-n.list.items in
    let next = c.loop-n.next in
    let n = c.loop-n.n in
    elim c.if-stands_at.branch [
      | then-stands_at w ↦
          let p = c.stands_at.ensures.there w.if-stands_at.true in
          rw (w.list-is, w.next-is) (complement-skip gaps list next n c.requires.ascending c.loop-n.invariant p.0 p.1)
      | else-stands_at+in_ok-push w ↦
          rw (w.list-is, w.next-is, w.in_ok-push.ensures.items) (complement-push gaps list next n c.requires.ascending c.loop-n.invariant (c.stands_at.ensures.elsewhere w.if-stands_at.false))
    ]

pub returns-clause-list : goal.returns-clause-list
returns-clause-list c =
    let gaps = c.args.gaps.now in
    let list = c.loop-n.list.items in
    let e : c.loop-n.n ≡ 2 * length gaps + 1 = omega (arith, c.loop-n-test.false, c.loop-n.auto.n-end) in
    complement-small gaps list c.loop-n.next (2 * length gaps) c.requires.positive c.requires.below (subst (IsComplement gaps list c.loop-n.next) e c.loop-n.invariant)

pub returns-clause-same : goal.returns-clause-same
returns-clause-same c =
    let gaps = c.args.gaps.now in
    let list = c.loop-n.list.items in
    let e : c.loop-n.n ≡ 2 * length gaps + 1 = omega (arith, c.loop-n-test.false, c.loop-n.auto.n-end) in
    complement-same gaps list c.loop-n.next (2 * length gaps) c.requires.positive c.requires.below (subst (IsComplement gaps list c.loop-n.next) e c.loop-n.invariant)
