use Rattle.sg_samples.proofs.ClosureSamples.{arf, not_arf}
use Rattle.sg_samples.proofs.closures.arf.Goals as goal

pub returns-clause-with_seven : goal.returns-clause-with_seven
returns-clause-with_seven c = arf

pub returns-clause-without : goal.returns-clause-without
returns-clause-without c = not_arf
