use Rattle.sg_omega.proofs.MinimalLemmas.{serves-iff, omega-from_greatest, one-omega}
use Rattle.sg_omega.proofs.laws.omega_is_the_greatest_minimal_length.Goals as goal

pub returns-clause-serves : goal.returns-clause-serves
returns-clause-serves c = serves-iff

pub returns-clause-greatest : goal.returns-clause-greatest
returns-clause-greatest c = omega-from_greatest

pub returns-clause-one : goal.returns-clause-one
returns-clause-one c = one-omega
