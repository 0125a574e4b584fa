use Rattle.sg_classes.proofs.ArgumentLemmas.{divisor-more}
use Rattle.sg_classes.proofs.entries.common_divisor.Goals as goal

pub loop-entry-preserved : goal.loop-entry-preserved
loop-entry-preserved c d = divisor-more c.args.entries.now c.loop-entry.entry-index c.loop-entry.divisor c.gcd-divisor.result d c.gcd-divisor.ensures (c.loop-entry.invariant d)
