use Rattle.sg_nonunique_samples.proofs.ClassSamples.{thirty-12, thirty-13, thirty-23}
use Rattle.sg_nonunique_samples.proofs.classes.three_classes.Goals as goal

pub returns-clause-first_and_second : goal.returns-clause-first_and_second
returns-clause-first_and_second c = thirty-12

pub returns-clause-first_and_third : goal.returns-clause-first_and_third
returns-clause-first_and_third c = thirty-13

pub returns-clause-second_and_third : goal.returns-clause-second_and_third
returns-clause-second_and_third c = thirty-23
