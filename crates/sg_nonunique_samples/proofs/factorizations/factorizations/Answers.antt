use Rattle.sg_nonunique_samples.proofs.FactorizationSamples.{negative, naturals}
use Rattle.sg_nonunique_samples.proofs.KnownLists.{twelve, thirty, four}
use Rattle.sg_nonunique_samples.proofs.factorizations.factorizations.Goals as goal

pub returns-clause-twelve : goal.returns-clause-twelve
returns-clause-twelve c = twelve

pub returns-clause-thirty : goal.returns-clause-thirty
returns-clause-thirty c = thirty

pub returns-clause-gap : goal.returns-clause-gap
returns-clause-gap c = four

pub returns-clause-negative : goal.returns-clause-negative
returns-clause-negative c = negative

pub returns-clause-naturals : goal.returns-clause-naturals
returns-clause-naturals c = naturals
