use Rattle.std.proofs.Common.{Ok, Err, None, Some, [], ap, ◌∙◌, subst}
use Rattle.sg_value.specs.Known.{named}
use Rattle.sg_rows.specs.declared.fault.Fault.TheVariants.{WrongType}
use Rattle.sg_value.specs.Plain.{plain_of_all}
use Rattle.sg_tree.specs.TreeView.{arguments_of}
use Rattle.sg_eval.specs.declared.step_fault.StepFault.TheVariants.{Script}
use Rattle.sg_meaning.specs.Expressions.{eval_given}
use Rattle.sg_eval.specs.Given.{plain_where, known_where}
use Rattle.sg_eval.specs.Machine.{state_of}
use Rattle.sg_eval.specs.Outcomes.{Evaluates}
use Rattle.sg_meaning.specs.Process.{gives, writes, ◌>>=◌}
use Rattle.sg_meaning.specs.Statements.{printed, texts_of}
use Rattle.sg_eval.specs.Steps.{Executed}
use Rattle.sg_eval.proofs.Executing.{at_top, executed_exit, executed_memory, executed_value, executed_refuses, executed_writes}
use Rattle.sg_eval.proofs.exec.print.Goals as goal

pub returns-in_err-values-clause-done : goal.returns-in_err-values-clause-done
returns-in_err-values-clause-done g c =
    let s = state_of c.args.machine.now in
    let s1 = state_of c.given.new.machine in
    let args = arguments_of c.args.args.now in
    executed_exit plain_where known_where (eval_given [] args) printed c.from_residual.result _ s s1 _ c.from_residual.ensures.1 (at_top plain_where known_where _ s s1 (λ ps. eval_given ps args) c.requires c.in_err-values.ensures.value)

pub returns-in_err-text-in-Some-clause-done : goal.returns-in_err-text-in-Some-clause-done
returns-in_err-text-in-Some-clause-done g c =
    let s = state_of c.args.machine.now in
    let s1 = state_of c.given.new.machine in
    let h = c.in_ok-values.ensures.value in
    executed_memory (eval_given [] (arguments_of c.args.args.now) >>= printed) c.from_residual-in_err-text-in-Some.result s s1 _ c.from_residual-in_err-text-in-Some.ensures.1 h.keeps h.variables h.budget

pub returns-in-None-clause-done : goal.returns-in-None-clause-done
returns-in-None-clause-done g c =
    let s = state_of c.args.machine.now in
    let s1 = state_of c.given.new.machine in
    let args = arguments_of c.args.args.now in
    let h = subst (λ o. Evaluates plain_where known_where (Ok o) s s1 (λ names. eval_given s.parameters args)) c.in-None.is c.in_ok-values.ensures.value in
    executed_value plain_where known_where (eval_given [] args) printed None (Err (Script WrongType)) s s1 s1 _ _ (at_top plain_where known_where (Ok None) s s1 (λ ps. eval_given ps args) c.requires h) (executed_refuses WrongType s1 _)

pub returns-in_ok-text-in-Some-clause-done : goal.returns-in_ok-text-in-Some-clause-done
returns-in_ok-text-in-Some-clause-done g c =
    let s = state_of c.args.machine.now in
    let s1 = state_of c.given.new.machine in
    let args = arguments_of c.args.args.now in
    let vs = c.in-Some.values in
    let text = c.in_ok-text-in-Some.text in
    let o = g.W.Sink.taken c.args.out.now in
    let o' = g.W.Sink.taken c.write_text.new.out in
    let r = c.write_text.result in
    let h = subst (λ w. Evaluates plain_where known_where (Ok w) s s1 (λ names. eval_given s.parameters args)) c.in-Some.is c.in_ok-values.ensures.value in
    let is = c.in_ok-text-in-Some.ensures ∙ ap (λ xs. texts_of (plain_of_all (named s1.names) xs)) c.deref.ensures.value in
    executed_value plain_where known_where (eval_given [] args) printed (Some vs) r s s1 s1 o o' (at_top plain_where known_where (Ok (Some vs)) s s1 (λ ps. eval_given ps args) c.requires h)
    (subst (λ bs. Executed r s1 s1 o o' (writes bs (gives tt))) is (executed_writes text r s1 o o' (h.parameters ∙ c.requires) c.write_text.ensures.all c.write_text.ensures.front c.write_text.ensures.kind))
