use Rattle.sg_nonunique_samples.proofs.CostSamples.{atom_values}
use Rattle.sg_nonunique_samples.proofs.costs.atom_values.Goals as goal

pub returns : goal.returns
returns c = atom_values
