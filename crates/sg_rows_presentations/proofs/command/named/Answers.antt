use Rattle.sg_rows_presentations.specs.Commands.{named}
use Rattle.sg_rows_presentations.proofs.command.named.Goals as goal

pub returns : goal.returns
unfolding named
returns c = c.find.ensures
