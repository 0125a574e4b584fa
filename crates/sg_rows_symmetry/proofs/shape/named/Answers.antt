use Rattle.sg_rows_symmetry.specs.Shapes.{named}
use Rattle.sg_rows_symmetry.proofs.shape.named.Goals as goal

pub returns : goal.returns
unfolding named
returns c = c.find.ensures
