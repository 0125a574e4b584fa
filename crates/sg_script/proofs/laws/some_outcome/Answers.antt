use Rattle.sg_script.proofs.SomeOutcome.{some-outcome}
use Rattle.sg_script.proofs.laws.some_outcome.Goals as goal

pub returns : goal.returns
returns c = some-outcome
