use Rattle.std.proofs.Common.{Ok, refl}
use Rattle.sg_value.specs.Plain.{AllKnown, plain}
use Rattle.sg_meaning.specs.Process.{gives}
use Rattle.sg_eval.proofs.Deciding.{decided_exit, decided_then}
use Rattle.sg_eval.proofs.Evaluating.{evaluates_gives}
use Rattle.sg_eval.proofs.links.truth_itself.Goals as goal

pub returns-in_err-decide : goal.returns-in_err-decide
returns-in_err-decide c = λ s is_known.
    decided_exit plain AllKnown c.args.v s (λ names b. gives (plain names c.args.v)) c.from_residual.result _ c.from_residual.ensures.1 (c.in_err-decide.ensures s)

pub returns : goal.returns
returns c = λ s is_known.
    decided_then plain AllKnown c.args.v s (λ names b. gives (plain names c.args.v)) s c.in_ok-decide.field-0 (Ok c.args.v) (c.in_ok-decide.ensures s)
    (evaluates_gives plain AllKnown c.args.v s (λ names. plain names c.args.v) is_known (λ final later. refl))
