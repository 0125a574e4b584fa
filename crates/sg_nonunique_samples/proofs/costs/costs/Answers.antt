use Rattle.sg_nonunique_samples.proofs.ConstructionSamples.{above_2, within_3}
use Rattle.sg_nonunique_samples.proofs.CountedSamples.{above_25, within_26}
use Rattle.sg_nonunique_samples.proofs.costs.costs.Goals as goal

pub returns-clause-presentation_above : goal.returns-clause-presentation_above
returns-clause-presentation_above c = above_25

pub returns-clause-presentation_within : goal.returns-clause-presentation_within
returns-clause-presentation_within c = within_26

pub returns-clause-construction_above : goal.returns-clause-construction_above
returns-clause-construction_above c = above_2

pub returns-clause-construction_within : goal.returns-clause-construction_within
returns-clause-construction_within c = within_3
