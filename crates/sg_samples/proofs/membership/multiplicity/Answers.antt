use Rattle.sg_samples.proofs.MemberSamples.{three_five-multiplicity, not_five}
use Rattle.sg_samples.proofs.membership.multiplicity.Goals as goal

pub returns-clause-least : goal.returns-clause-least
returns-clause-least c = three_five-multiplicity

pub returns-clause-greater : goal.returns-clause-greater
returns-clause-greater c = not_five
