use Rattle.sg_nonunique_samples.proofs.FactorizationSamples.{five_thirds, not_ten_sixths, naturals-one}
use Rattle.sg_nonunique_samples.proofs.factorizations.elasticity.Goals as goal

pub returns-clause-five_thirds : goal.returns-clause-five_thirds
returns-clause-five_thirds c = five_thirds

pub returns-clause-not_in_lowest_terms : goal.returns-clause-not_in_lowest_terms
returns-clause-not_in_lowest_terms c = not_ten_sixths

pub returns-clause-naturals : goal.returns-clause-naturals
returns-clause-naturals c = naturals-one
