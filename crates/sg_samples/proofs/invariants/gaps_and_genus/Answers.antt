use Rattle.sg_samples.proofs.InvariantSamples.{three_five-gaps, three_five-genus, natural-genus}
use Rattle.sg_samples.proofs.invariants.gaps_and_genus.Goals as goal

pub returns-clause-gaps : goal.returns-clause-gaps
returns-clause-gaps c = three_five-gaps

pub returns-clause-genus : goal.returns-clause-genus
returns-clause-genus c = three_five-genus

pub returns-clause-naturals : goal.returns-clause-naturals
returns-clause-naturals c = natural-genus
