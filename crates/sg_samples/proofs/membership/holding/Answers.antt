use Rattle.sg_samples.proofs.MemberSamples.{more_generators, fewer_generators}
use Rattle.sg_samples.proofs.membership.holding.Goals as goal

pub returns-clause-more : goal.returns-clause-more
returns-clause-more c = more_generators

pub returns-clause-fewer : goal.returns-clause-fewer
returns-clause-fewer c = fewer_generators
