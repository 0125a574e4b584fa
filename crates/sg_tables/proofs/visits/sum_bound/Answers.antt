use Rattle.std.proofs.Common.{arith}
use Rattle.sg_tables.proofs.visits.sum_bound.Goals as goal

pub loop-generator-init : goal.loop-generator-init
loop-generator-init c = record {
  top = λ i l. omega (arith, c.greatest.ensures.above i l, c.saturating_sub-bound.ensures);
  unmarked = λ j l. absurd (omega arith);
}
