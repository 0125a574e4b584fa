use Rattle.std.proofs.Common.{refl, sym, subst}
use Rattle.sg_value.specs.Known.{named}
use Rattle.sg_value.specs.Plain.{plain}
use Rattle.sg_rows.specs.Order.{IsReply}
use Rattle.sg_calls.specs.Operations.{negation}
use Rattle.sg_meaning.specs.Queries.{negates}
use Rattle.sg_eval.proofs.Evaluating.{evaluates_told, plain_later}
use Rattle.sg_eval.proofs.answers.other_sign.Goals as goal

pub returns : goal.returns
returns c = λ s is_known.
    evaluates_told c.negate.result s (negation (plain (named s.names) c.args.v.now)) (λ names. negates (plain names c.args.v.now))
    (λ final later t h. (subst (λ d. IsReply (negation d) t) (sym (plain_later s.names final c.args.v.now later is_known)) h, refl)) (c.negate.ensures s.names)
