use Rattle.std.proofs.Common.{[], refl, ap, subst, ◌∙◌}
use Rattle.std.specs.Prelude.{Err}
use Rattle.sg_rows.specs.declared.fault.Fault.TheVariants as fault
use Rattle.sg_script.specs.Outcome.{IsReadAs, Tells, too_deep, no_statement}
use Rattle.sg_eval.specs.Machine.{state_of}
use Rattle.sgps_cli.proofs.Written.{unchanged}
use Rattle.sgps_cli.proofs.Acting.{unread}
use Rattle.sgps_cli.proofs.play.execute.Goals as goal

pub returns-in-Err-Syntax-clause-executed : goal.returns-in-Err-Syntax-clause-executed
returns-in-Err-Syntax-clause-executed g c = (
  [],
  unchanged _,
  unread c.args.text.now (state_of c.args.machine.now) no_statement fault.Syntax
      (subst (λ r. Tells r (λ o. IsReadAs c.args.text.now o)) (c.in-Err-Syntax.is ∙ ap Err c.in-Err-Syntax.field-0-is) c.parse.ensures.reads) (λ keep place line. refl),
)

pub returns-in-Err-Depth-clause-executed : goal.returns-in-Err-Depth-clause-executed
returns-in-Err-Depth-clause-executed g c = (
  [],
  unchanged _,
  unread c.args.text.now (state_of c.args.machine.now) too_deep fault.Depth
      (subst (λ r. Tells r (λ o. IsReadAs c.args.text.now o)) (c.in-Err-Depth.is ∙ ap Err c.in-Err-Depth.field-0-is) c.parse.ensures.reads) (λ keep place line. refl),
)
