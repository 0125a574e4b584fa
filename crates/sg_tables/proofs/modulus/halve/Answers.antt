use Rattle.std.proofs.Common.{◌+◌, ◌-◌, ◌/◌, arith}
use Rattle.sg_tables.proofs.ModulusLemmas.{not_met-before}
use Rattle.sg_tables.proofs.modulus.halve.Goals as goal

pub loop-low-preserved : goal.loop-low-preserved
loop-low-preserved c = record {
  order = omega arith;
  within = c.loop-low.invariant.within;
  met = c.loop-low.invariant.met;
  not_before = λ j l. not_met-before c.args.apery.now c.args.modulus c.args.class j (c.loop-low.low + (c.loop-low.high - c.loop-low.low) / 2) c.requires.adds
      (λ met. absurd (let f = c.is_met.ensures.1 met in cc)) (omega arith);
}
