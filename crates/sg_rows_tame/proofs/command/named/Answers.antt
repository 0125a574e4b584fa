use Rattle.sg_rows_tame.specs.Commands.{named}
use Rattle.sg_rows_tame.proofs.command.named.Goals as goal

pub returns : goal.returns
unfolding named
returns c = c.find.ensures
