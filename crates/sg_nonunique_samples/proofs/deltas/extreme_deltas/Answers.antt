use Rattle.sg_nonunique_samples.proofs.DeltaSamples.{least-two, greatest-two, naturals-least, naturals-greatest}
use Rattle.sg_nonunique_samples.proofs.deltas.extreme_deltas.Goals as goal

pub returns-clause-least : goal.returns-clause-least
returns-clause-least c = least-two

pub returns-clause-greatest : goal.returns-clause-greatest
returns-clause-greatest c = greatest-two

pub returns-clause-none_is_least : goal.returns-clause-none_is_least
returns-clause-none_is_least c = naturals-least

pub returns-clause-none_is_greatest : goal.returns-clause-none_is_greatest
returns-clause-none_is_greatest c = naturals-greatest
