use Rattle.sg_samples.proofs.MemberSamples.{eight}
use Rattle.sg_samples.proofs.membership.members.Goals as goal

pub returns-clause-eight : goal.returns-clause-eight
returns-clause-eight c = eight

pub returns-clause-integer : goal.returns-clause-integer
returns-clause-integer c = eight
