use Rattle.std.proofs.Common.{Ok, [], ◌∙◌}
use Rattle.sg_value.specs.Plain.{AllKnown, plain}
use Rattle.sg_tree.specs.TreeView.{tree_of, arguments_of}
use Rattle.sg_meaning.specs.Expressions.{eval}
use Rattle.sg_eval.specs.Machine.{state_of}
use Rattle.sg_meaning.specs.Process.{gives, ◌>>=◌}
use Rattle.sg_meaning.specs.Statements.{done}
use Rattle.sg_eval.specs.Steps.{print_done}
use Rattle.sg_eval.proofs.Blocks.{done_printed, done_dropped}
use Rattle.sg_eval.proofs.Executing.{at_top, executed_as, executed_exit, executed_value, executed_gives}
use Rattle.sg_eval.proofs.exec.perform.Goals as goal

pub returns-in-Some-clause-done : goal.returns-in-Some-clause-done
returns-in-Some-clause-done g c =
    let args = arguments_of c.in-Some.args.now in
    executed_as (print_done args) (done (tree_of c.args.e.now)) c.print.result (state_of c.args.machine.now) (state_of c.print.new.machine) _ _ (done_printed (tree_of c.args.e.now) args c.in-Some.ensures) c.print.ensures.done

pub returns-in_err-eval-clause-done : goal.returns-in_err-eval-clause-done
returns-in_err-eval-clause-done g c =
    let s = state_of c.args.machine.now in
    let s1 = state_of c.eval.new.machine in
    let t = tree_of c.args.e.now in
    executed_as (eval [] t >>= (λ d. gives tt)) (done t) c.from_residual.result s s1 _ _ (done_dropped t c.in_default.ensures)
    (executed_exit plain AllKnown (eval [] t) (λ d. gives tt) c.from_residual.result _ s s1 _ c.from_residual.ensures.1 (at_top plain AllKnown _ s s1 (λ ps. eval ps t) c.requires c.in_err-eval.ensures))

pub returns-clause-done : goal.returns-clause-done
returns-clause-done g c =
    let s = state_of c.args.machine.now in
    let s1 = state_of c.eval.new.machine in
    let t = tree_of c.args.e.now in
    let h = c.in_ok-eval.ensures in
    executed_as (eval [] t >>= (λ d. gives tt)) (done t) (Ok tt) s s1 _ _ (done_dropped t c.in_default.ensures)
    (executed_value plain AllKnown (eval [] t) (λ d. gives tt) c.in_ok-eval.field-0 (Ok tt) s s1 s1 _ _ (at_top plain AllKnown (Ok c.in_ok-eval.field-0) s s1 (λ ps. eval ps t) c.requires h) (executed_gives tt s1 _ (h.parameters ∙ c.requires)))
