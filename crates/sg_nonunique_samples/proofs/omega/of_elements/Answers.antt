use Rattle.sg_nonunique_samples.proofs.OmegaSamples.{omega-three, omega-zero, omega-one}
use Rattle.sg_nonunique_samples.proofs.omega.of_elements.Goals as goal

pub returns-clause-three : goal.returns-clause-three
returns-clause-three c = omega-three

pub returns-clause-zero : goal.returns-clause-zero
returns-clause-zero c = omega-zero

pub returns-clause-one : goal.returns-clause-one
returns-clause-one c = omega-one
