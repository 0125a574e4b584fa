use Rattle.std.proofs.Common.{Ok}
use Rattle.sg_value.specs.Data.{truth}
use Rattle.sg_value.specs.Plain.{AllKnown, plain}
use Rattle.sg_value.specs.declared.value.Value.TheVariants as value
use Rattle.sg_meaning.specs.Expressions.{turned}
use Rattle.sg_meaning.specs.Process.{gives}
use Rattle.sg_eval.proofs.Deciding.{decided_exit, decided_then, evaluates_truth}
use Rattle.sg_eval.proofs.signs.turned.Goals as goal

pub returns-in_err-decide : goal.returns-in_err-decide
returns-in_err-decide c = λ s.
    decided_exit plain AllKnown c.args.v.now s (λ names b. gives (truth (turned c.args.count b))) c.from_residual.result _ c.from_residual.ensures.1 (c.in_err-decide.ensures s)

pub returns : goal.returns
returns c = λ s.
    let b = c.in_ok-decide.field-0 in
    decided_then plain AllKnown c.args.v.now s (λ names d. gives (truth (turned c.args.count d))) s b (Ok (value.Bool c.turn.result)) (c.in_ok-decide.ensures s)
    (evaluates_truth c.turn.result (turned c.args.count b) s c.turn.ensures)
