use Rattle.sg_rows_factorizations.specs.Commands.{named}
use Rattle.sg_rows_factorizations.proofs.command.named.Goals as goal

pub returns : goal.returns
unfolding named
returns c = c.find.ensures
