use Rattle.sg_samples.proofs.MemberSamples.{eight_is_spare}
use Rattle.sg_samples.proofs.membership.minimal_lists.Goals as goal

pub returns-clause-spare : goal.returns-clause-spare
returns-clause-spare c = eight_is_spare
