use Rattle.sg_value.specs.Plain.{AllKnown, plain}
use Rattle.sg_tree.specs.TreeView.{tree_of}
use Rattle.sg_meaning.specs.Expressions.{eval, decided}
use Rattle.sg_eval.specs.Machine.{state_of}
use Rattle.sg_meaning.specs.Process.{gives}
use Rattle.sg_eval.specs.Truths.{itself, no_semigroup}
use Rattle.sg_eval.proofs.Evaluating.{evaluates_exit, evaluates_then}
use Rattle.sg_eval.proofs.exec.holds.Goals as goal

pub returns-in_err-eval : goal.returns-in_err-eval
returns-in_err-eval c =
    let s = state_of c.args.machine.now in
    evaluates_exit plain AllKnown itself no_semigroup c.from_residual.result _ s (state_of c.eval.new.machine) (λ names. eval s.parameters (tree_of c.args.test.now)) (λ names d. decided d (λ b. gives b)) c.from_residual.ensures.1 c.in_err-eval.ensures

pub returns : goal.returns
returns c =
    let s = state_of c.args.machine.now in
    let s1 = state_of c.eval.new.machine in
    evaluates_then plain AllKnown itself no_semigroup c.in_ok-eval.field-0 c.decide.result s s1 s1 (λ names. eval s.parameters (tree_of c.args.test.now)) (λ names d. decided d (λ b. gives b)) c.in_ok-eval.ensures (c.decide.ensures s1)
