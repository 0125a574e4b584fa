use Rattle.std.proofs.Common.{◌-◌, arith}
use Rattle.sg_tables.proofs.ModulusLemmas.{not_met-before}
use Rattle.sg_tables.proofs.modulus.fall.Goals as goal
use Rattle.sg_tables.proofs.modulus.fall.Goals.{then-loop-step-test+else-is_met, else-loop-step-test}

pub returns-then-step-high : goal.returns-then-step-high
returns-then-step-high c = record {
  order = omega arith;
  within = c.loop-step.invariant.within;
  met = c.loop-step.invariant.met;
  not_before = elim c.loop-step-test.branch [
    | then-loop-step-test+else-is_met w ↦ λ j l. not_met-before c.args.apery.now c.args.modulus c.args.class j (c.loop-step.high - c.loop-step.step) c.requires.adds
        (λ met. absurd (let f = w.is_met.ensures.1 met in let g = w.if-is_met.false in cc)) (omega arith)
    | else-loop-step-test w ↦ λ j l. absurd (omega (arith, w.loop-step-test.false))
  ];
}
