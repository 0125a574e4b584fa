use Rattle.sg_script.proofs.OutcomeLemmas.{one-outcome}
use Rattle.sg_script.proofs.laws.one_outcome.Goals as goal

pub returns : goal.returns
returns c = λ text found other d e. one-outcome d e
