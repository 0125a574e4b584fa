use Rattle.sg_samples.proofs.MemberSamples.{all_but_three, without_the_spare}
use Rattle.sg_samples.proofs.membership.generated_semigroups.Goals as goal

pub returns-clause-all_but_three : goal.returns-clause-all_but_three
returns-clause-all_but_three c = all_but_three

pub returns-clause-without_the_spare : goal.returns-clause-without_the_spare
returns-clause-without_the_spare c = without_the_spare
