use Rattle.sg_small.proofs.FundamentalLemmas.{no-marked_multiple}
use Rattle.sg_small.proofs.fundamental.has_marked_multiple.Goals as goal

pub returns : goal.returns
returns c =
    let marks = c.args.marks.now in (
      (λ e. absurd (cc)),
      (λ h. absurd (no-marked_multiple marks c.args.divisor c.loop-factor.factor c.requires.positive c.loop-factor-test.false c.loop-factor.invariant h)),
    )
