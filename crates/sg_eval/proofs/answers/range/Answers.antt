use Rattle.sg_value.specs.Plain.{plain}
use Rattle.sg_rows.specs.Kinds.{as_list}
use Rattle.sg_meaning.specs.Expressions.{ask, listed}
use Rattle.sg_meaning.specs.Process.{gives}
use Rattle.sg_meaning.specs.Queries.{spans}
use Rattle.sg_eval.specs.Ranges.{list_of_range, is_range, entries_in, are_known}
use Rattle.sg_eval.proofs.Evaluating.{evaluates_exit}
use Rattle.sg_eval.proofs.Ranged.{range_counted}
use Rattle.sg_eval.proofs.answers.range.Goals as goal

pub returns-in_err-range_between : goal.returns-in_err-range_between
returns-in_err-range_between c = λ s.
    evaluates_exit list_of_range is_range entries_in are_known c.from_residual.result _ s s (λ names. ask (spans (plain names c.args.low.now) (plain names c.args.high.now))) (λ names d. listed (as_list d) (λ ds. gives ds)) c.from_residual.ensures.1 (c.in_err-range_between.ensures.asked s)

pub returns : goal.returns
returns c = λ s. range_counted c.in_ok-range_between.field-0 s s (λ names. ask (spans (plain names c.args.low.now) (plain names c.args.high.now))) (c.in_ok-range_between.ensures.asked s)
