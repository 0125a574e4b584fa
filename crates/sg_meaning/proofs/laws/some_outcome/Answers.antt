use Rattle.sg_meaning.proofs.SomeEnd.{answer_some}
use Rattle.sg_meaning.proofs.LawfulStatements.{statement_some}
use Rattle.sg_meaning.proofs.laws.some_outcome.Goals as goal

pub returns : goal.returns
returns c = record { answers = answer_some; statements = statement_some }
