use Rattle.std.proofs.Common.{refl, arith}
use Rattle.sg_ideal.proofs.HeadLemmas.{past-from, free-from_front}
use Rattle.sg_ideal.proofs.heads.is_free.Goals as goal

pub returns-then-generator-number : goal.returns-then-generator-number
returns-then-generator-number c = (
  (λ e. free-from_front c.args.semigroup.now c.args.entries.now c.args.number c.loop-generator.generator-index c.loop-generator.invariant
      (past-from c.args.semigroup.now c.args.number c.loop-generator.generator-index c.requires.ascending c.loop-generator-test.true (omega arith))),
  (λ h. refl),
)

pub returns : goal.returns
returns c = (
  (λ e. free-from_front c.args.semigroup.now c.args.entries.now c.args.number c.loop-generator.generator-index c.loop-generator.invariant (λ k l m. absurd (omega arith))),
  (λ h. refl),
)
