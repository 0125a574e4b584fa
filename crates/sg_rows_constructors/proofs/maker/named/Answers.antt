use Rattle.sg_rows_constructors.specs.Makers.{named}
use Rattle.sg_rows_constructors.proofs.maker.named.Goals as goal

pub returns : goal.returns
unfolding named
returns c = c.find.ensures
