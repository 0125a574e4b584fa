use Rattle.sg_small.proofs.SmallLemmas.{least-bound}
use Rattle.sg_small.proofs.small.least_positive.Goals as goal

pub returns-then-list-gt1-clause-least : goal.returns-then-list-gt1-clause-least
returns-then-list-gt1-clause-least c = least-bound c.args.list.now c.requires c.if-list-gt1.true
