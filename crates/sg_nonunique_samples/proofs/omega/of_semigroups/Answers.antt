use Rattle.sg_nonunique_samples.proofs.OmegaSamples.{naturals}
use Rattle.sg_nonunique_samples.proofs.omega.of_semigroups.Goals as goal

pub returns : goal.returns
returns c = naturals
