use Rattle.std.proofs.Common.{◌≡◌, ◌+◌, ◌<◌, ◌≤◌, length, get_or, arith}
use Rattle.sg_small.proofs.SmallLemmas.{up_to, first-matched, first-below, more-matched, more-below, same-below, missed-sum, all-sums, marked-set}
use Rattle.sg_small.proofs.small.mark_sums.Goals as goal
use Rattle.sg_small.proofs.small.mark_sums.Goals.{then-rest-list-2, else-rest-list-2}

pub loop-place-init : goal.loop-place-init
loop-place-init c = record {
  marks = c.requires.marks;
  inside = omega arith;
  above_zero = omega arith;
  matched = first-matched c.args.list.now c.requires.list c.args.which c.requires.which;
  below = first-below c.args.list.now c.requires.list c.args.which c.requires.positive c.requires.which;
}

pub overflow_sub-rest : goal.overflow_sub-rest
overflow_sub-rest c = up_to c.args.list.now c.requires.list c.args.which c.loop-place.place (omega (arith, c.loop-place.auto.place)) c.loop-place-test.true

pub returns-then-rest-list-clause-broken : goal.returns-then-rest-list-clause-broken
returns-then-rest-list-clause-broken c = λ e.
    let h = c.loop-place.invariant in
    missed-sum c.args.list.now c.requires.list c.args.which c.loop-place.other c.loop-place.place c.requires.which
    (omega (arith, h.inside, c.loop-place-test.true)) c.loop-place-test.true h.below (omega (arith, c.if-rest-list.true))

pub loop-place-preserved : goal.loop-place-preserved
loop-place-preserved c =
    let h = c.loop-place.invariant in
    let list = c.args.list.now in
    let s = c.requires.list in
    let which = c.args.which in
    let other = c.loop-place.other in
    let place = c.loop-place.place in
    let low : get_or list which 0 ≤ get_or list place 0 = up_to list s which place (omega (arith, c.loop-place.auto.place)) c.loop-place-test.true in
    elim c.if-rest-list-2.branch [
      | then-rest-list-2 w ↦
          let e : get_or list place 0 ≡ get_or list which 0 + get_or list other 0 = omega (arith, low, w.if-rest-list-2.true) in
          let next : other + 1 < length list = omega (arith, h.inside, c.requires.positive, c.loop-place-test.true) in
          rw (w.marked-is, w.other-is) (record {
            marks = marked-set list c.loop-place.marked place which other h.marks (omega (arith, c.loop-place.auto.marked, c.requires.long, c.loop-place-test.true))
                c.requires.positive (omega (arith, h.above_zero)) c.requires.which (omega arith) e;
            inside = omega (arith, h.inside);
            above_zero = omega arith;
            matched = more-matched list s which other place c.loop-place-test.true e h.matched;
            below = more-below list s which other place next e h.below;
          })
      | else-rest-list-2 w ↦
          rw (w.marked-is, w.other-is) (record {
            marks = h.marks;
            inside = omega (arith, h.inside);
            above_zero = h.above_zero;
            matched = h.matched;
            below = same-below list s (get_or list which 0 + get_or list other 0) place (omega (arith, low, c.if-rest-list.false, w.if-rest-list-2.false)) h.below;
          })
    ]

pub returns-clause-closed : goal.returns-clause-closed
returns-clause-closed c = λ e.
    let h = c.loop-place.invariant in
    all-sums c.args.list.now c.requires.list c.args.which c.loop-place.other h.matched (λ q l. h.below q (omega (arith, l, c.loop-place-test.false)))
