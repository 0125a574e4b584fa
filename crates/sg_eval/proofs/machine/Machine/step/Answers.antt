use Rattle.std.proofs.Common.{sym, ◌∙◌, subst}
use Rattle.sg_store.specs.Interned.{Keeps}
use Rattle.sg_tree.specs.TreeView.{code_of}
use Rattle.sg_eval.specs.Machine.{state_of}
use Rattle.sg_eval.proofs.Stepping.{step_ended, step_on, step_refused}
use Rattle.sg_eval.proofs.machine.Machine.step.Goals as goal

pub returns-then-is_quit-clause-executes : goal.returns-then-is_quit-clause-executes
returns-then-is_quit-clause-executes g c =
    step_ended (code_of c.args.stmt.now) (state_of c.args.self.now) (state_of c.clear.new.self) c.clear.ensures.store c.clear.ensures.variables _ (sym c.is_quit.ensures ∙ c.if-is_quit.true)

pub returns-in_err-exec-clause-executes : goal.returns-in_err-exec-clause-executes
returns-in_err-exec-clause-executes g c =
    step_refused (code_of c.args.stmt.now) (state_of c.args.self.now) (state_of c.clear.new.self) c.clear.ensures.store c.clear.ensures.variables (state_of c.exec.new.machine) _ _ (sym c.is_quit.ensures ∙ c.if-is_quit.false)
    c.from_residual.result c.in_err-exec.field-0.0 c.from_residual.ensures.1 c.in_err-exec.ensures.done

pub returns-clause-executes : goal.returns-clause-executes
returns-clause-executes g c =
    step_on (code_of c.args.stmt.now) (state_of c.args.self.now) (state_of c.clear.new.self) c.clear.ensures.store c.clear.ensures.variables (state_of c.exec.new.machine) _ _ (sym c.is_quit.ensures ∙ c.if-is_quit.false) c.in_ok-exec.ensures.done

pub returns-in_err-exec-clause-keeps : goal.returns-in_err-exec-clause-keeps
returns-in_err-exec-clause-keeps g c = subst (λ names. Keeps names (state_of c.exec.new.machine).names) c.clear.ensures.store.names c.in_err-exec.ensures.done.keeps

pub returns-in_err-exec-clause-budget : goal.returns-in_err-exec-clause-budget
returns-in_err-exec-clause-budget g c = c.in_err-exec.ensures.done.budget ∙ c.clear.ensures.store.budget

pub returns-clause-budget : goal.returns-clause-budget
returns-clause-budget g c = c.in_ok-exec.ensures.done.budget ∙ c.clear.ensures.store.budget
