use Rattle.sg_calls.proofs.OneReply.{commands_one, combines_one, sign_one}
use Rattle.sg_calls.proofs.laws.one_answer.Goals as goal

pub returns : goal.returns
returns c = record { commands = commands_one; operators = combines_one; sign = sign_one }
