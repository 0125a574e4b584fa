use Rattle.std.proofs.Common.{◌+◌, ◌-◌, ◌/◌, arith}
use Rattle.sg_tables.proofs.FoundLemmas.{more_than, most_before}
use Rattle.sg_tables.proofs.counts.count_up_to.Goals as goal

pub loop-low-preserved-then-entries-middle : goal.loop-low-preserved-then-entries-middle
loop-low-preserved-then-entries-middle c =
    let l = c.loop-low in
    record {
      ordered = omega arith;
      inside = omega (arith, l.invariant.inside);
      before = l.invariant.before;
      after = more_than c.args.entries.now c.args.most (l.low + (l.high - l.low) / 2) c.requires (omega (arith, l.invariant.inside, c.loop-low-test.true)) c.if-entries-middle.true;
    }

pub loop-low-preserved : goal.loop-low-preserved
loop-low-preserved c =
    let l = c.loop-low in
    record {
      ordered = omega arith;
      inside = l.invariant.inside;
      before = most_before c.args.entries.now c.args.most (l.low + (l.high - l.low) / 2) c.requires (omega (arith, l.invariant.inside, c.loop-low-test.true)) c.if-entries-middle.false;
      after = l.invariant.after;
    }
