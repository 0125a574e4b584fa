use Rattle.sg_rows_ideals.specs.Ideals.{named}
use Rattle.sg_rows_ideals.proofs.ideals.named.Goals as goal

pub returns : goal.returns
unfolding named
returns c = c.find.ensures
