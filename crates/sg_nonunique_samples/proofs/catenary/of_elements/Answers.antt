use Rattle.sg_nonunique_samples.proofs.CatenarySamples.{twelve-four, thirty-five, gap-zero}
use Rattle.sg_nonunique_samples.proofs.catenary.of_elements.Goals as goal

pub returns-clause-twelve : goal.returns-clause-twelve
returns-clause-twelve c = twelve-four

pub returns-clause-thirty : goal.returns-clause-thirty
returns-clause-thirty c = thirty-five

pub returns-clause-gap : goal.returns-clause-gap
returns-clause-gap c = gap-zero
