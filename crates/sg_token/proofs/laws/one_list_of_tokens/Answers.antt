use Rattle.sg_token.proofs.FallLemmas.{one-list}
use Rattle.sg_token.proofs.laws.one_list_of_tokens.Goals as goal

pub returns : goal.returns
returns c = λ text found others d e. one-list d e
