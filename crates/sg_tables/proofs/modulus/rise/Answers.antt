use Rattle.std.proofs.Common.{◌+◌, ◌-◌, arith}
use Rattle.sg_tables.proofs.ModulusLemmas.{not_met-before}
use Rattle.sg_tables.proofs.modulus.rise.Goals as goal

pub loop-step-init : goal.loop-step-init
loop-step-init c = record {
  some = omega arith;
  below = omega arith;
  not_before = λ j l. not_met-before c.args.apery.now c.args.modulus c.args.class j c.args.from c.requires.adds c.requires.from (omega arith);
}

pub loop-step-preserved : goal.loop-step-preserved
loop-step-preserved c = record {
  some = omega arith;
  below = omega arith;
  not_before = λ j l. not_met-before c.args.apery.now c.args.modulus c.args.class j (c.loop-step.low + c.loop-step.step - 1) c.requires.adds
      (λ met. absurd (let f = c.is_met.ensures.1 met in cc)) (omega arith);
}
