use Rattle.sg_nonunique_samples.proofs.PresentationSamples.{six-relations, six-canonical, six-presents, none-presents, six-needed, twice-spare, naturals-canonical}
use Rattle.sg_nonunique_samples.proofs.presentations.presentations.Goals as goal

pub returns-clause-relations : goal.returns-clause-relations
returns-clause-relations c = six-relations

pub returns-clause-canonical : goal.returns-clause-canonical
returns-clause-canonical c = six-canonical

pub returns-clause-presents : goal.returns-clause-presents
returns-clause-presents c = six-presents

pub returns-clause-none_does_not : goal.returns-clause-none_does_not
returns-clause-none_does_not c = none-presents

pub returns-clause-needed : goal.returns-clause-needed
returns-clause-needed c = six-needed

pub returns-clause-spare : goal.returns-clause-spare
returns-clause-spare c = twice-spare

pub returns-clause-naturals : goal.returns-clause-naturals
returns-clause-naturals c = naturals-canonical
