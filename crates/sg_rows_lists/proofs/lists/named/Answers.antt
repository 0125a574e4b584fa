use Rattle.sg_rows_lists.specs.Lists.{named}
use Rattle.sg_rows_lists.proofs.lists.named.Goals as goal

pub returns : goal.returns
unfolding named
returns c = c.find.ensures
