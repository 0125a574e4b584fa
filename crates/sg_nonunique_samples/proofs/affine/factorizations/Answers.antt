use Rattle.sg_nonunique_samples.proofs.AffineSamples.{six, two_classes, not_one}
use Rattle.sg_nonunique_samples.proofs.affine.factorizations.Goals as goal

pub returns-clause-six : goal.returns-clause-six
returns-clause-six c = six

pub returns-clause-classes : goal.returns-clause-classes
returns-clause-classes c = two_classes

pub returns-clause-one : goal.returns-clause-one
returns-clause-one c = not_one
