use Rattle.sg_rows_invariants.specs.Facts.{named}
use Rattle.sg_rows_invariants.proofs.fact.named.Goals as goal

pub returns : goal.returns
unfolding named
returns c = c.find.ensures
