use Rattle.sg_meaning.specs.Statements.{whole}
use Rattle.sg_meaning.proofs.OneEnd.{answer_one, end_one}
use Rattle.sg_meaning.proofs.laws.one_outcome.Goals as goal

pub returns : goal.returns
returns c = record { answers = answer_one; statements = λ n stmt. end_one n (whole stmt) }
