use Rattle.std.proofs.Common.{arith}
use Rattle.sg_tables.proofs.HalfLemmas.{half-down, half-up}
use Rattle.sg_tables.proofs.minimal.half_count.Goals as goal

pub loop-low-preserved-then-minimal-middle : goal.loop-low-preserved-then-minimal-middle
loop-low-preserved-then-minimal-middle c =
    let l = c.loop-low in
    record {
      ordered = omega arith;
      inside = omega (arith, l.invariant.inside);
      before = l.invariant.before;
      after = half-down c.args.minimal.now c.args.number l.low l.high c.requires c.loop-low-test.true l.invariant.inside c.if-minimal-middle.true;
    }

pub loop-low-preserved : goal.loop-low-preserved
loop-low-preserved c =
    let l = c.loop-low in
    record {
      ordered = omega arith;
      inside = l.invariant.inside;
      before = half-up c.args.minimal.now c.args.number l.low l.high c.requires c.loop-low-test.true l.invariant.inside c.if-minimal-middle.false;
      after = l.invariant.after;
    }
