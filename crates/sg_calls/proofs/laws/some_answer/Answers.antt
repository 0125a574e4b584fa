use Rattle.sg_calls.proofs.SomeReply.{commands_some, operators_some, sign_some}
use Rattle.sg_calls.proofs.laws.some_answer.Goals as goal

pub returns : goal.returns
returns c = record { commands = commands_some; operators = operators_some; sign = sign_some }
