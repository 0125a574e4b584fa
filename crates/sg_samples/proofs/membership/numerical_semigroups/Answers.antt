use Rattle.sg_samples.proofs.KnownSemigroups.{three_five, naturals}
use Rattle.sg_samples.proofs.MemberSamples.{even}
use Rattle.sg_samples.proofs.membership.numerical_semigroups.Goals as goal

pub returns-clause-coprime : goal.returns-clause-coprime
returns-clause-coprime c = three_five

pub returns-clause-naturals : goal.returns-clause-naturals
returns-clause-naturals c = naturals

pub returns-clause-even : goal.returns-clause-even
returns-clause-even c = even
