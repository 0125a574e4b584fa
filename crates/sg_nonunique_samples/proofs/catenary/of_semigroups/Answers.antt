use Rattle.sg_nonunique_samples.proofs.CatenarySamples.{two_three, naturals}
use Rattle.sg_nonunique_samples.proofs.catenary.of_semigroups.Goals as goal

pub returns-clause-two_three : goal.returns-clause-two_three
returns-clause-two_three c = two_three

pub returns-clause-naturals : goal.returns-clause-naturals
returns-clause-naturals c = naturals
