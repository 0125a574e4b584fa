use Rattle.sg_samples.proofs.ClosureSamples.{saturated, not_saturated}
use Rattle.sg_samples.proofs.closures.saturated.Goals as goal

pub returns-clause-with_seven : goal.returns-clause-with_seven
returns-clause-with_seven c = saturated

pub returns-clause-without : goal.returns-clause-without
returns-clause-without c = not_saturated
