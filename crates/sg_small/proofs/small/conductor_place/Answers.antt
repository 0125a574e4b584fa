use Rattle.std.proofs.Common.{arith}
use Rattle.sg_small.proofs.TrimLemmas.{run-more, run-new}
use Rattle.sg_small.proofs.small.conductor_place.Goals as goal
use Rattle.sg_small.proofs.small.conductor_place.Goals.{then-list-place-gt1, else-list-place-gt1}

pub loop-place-preserved : goal.loop-place-preserved
loop-place-preserved c =
    let list = c.args.list.now in
    let place = c.loop-place.place in
    elim c.if-list-place-gt1.branch [
      | then-list-place-gt1 w ↦ rw w.start-is (record {
        before = omega arith;
        run = run-new list c.requires place;
        gap = λ l. omega (arith, w.if-list-place-gt1.true);
      })
      | else-list-place-gt1 w ↦ rw w.start-is (record {
        before = omega (arith, c.loop-place.invariant.before);
        run = run-more list c.requires c.loop-place.start place c.loop-place.invariant.before c.loop-place-test.true (omega (arith, w.if-list-place-gt1.false)) c.loop-place.invariant.run;
        gap = c.loop-place.invariant.gap;
      })
    ]
