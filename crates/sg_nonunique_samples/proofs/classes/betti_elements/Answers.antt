use Rattle.sg_nonunique_samples.proofs.ClassSamples.{two_classes, zero-one_class, seventeen-one_class}
use Rattle.sg_nonunique_samples.proofs.classes.betti_elements.Goals as goal

pub returns-clause-ten : goal.returns-clause-ten
returns-clause-ten c = two_classes

pub returns-clause-zero : goal.returns-clause-zero
returns-clause-zero c = zero-one_class

pub returns-clause-seventeen : goal.returns-clause-seventeen
returns-clause-seventeen c = seventeen-one_class
