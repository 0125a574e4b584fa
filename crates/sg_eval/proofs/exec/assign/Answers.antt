use Rattle.std.proofs.Common.{Ok, [], ap, sym, ◌∙◌, subst, rules}
use Rattle.std.specs.Prelude.{FitsSigned}
use Rattle.std.specs.Int.{w64}
use Rattle.std.proofs.lemmas.Int.{to_z-of_z}
use Rattle.sg_value.specs.Data.{int}
use Rattle.sg_value.specs.declared.value.Value.TheVariants as value
use Rattle.sg_rows.proofs.Replying.{contents-Int, plain_integer}
use Rattle.sg_meaning.specs.Vars.{with_value}
use Rattle.sg_eval.proofs.Evaluating.{keeps_all}
use Rattle.sg_value.specs.Known.{named}
use Rattle.sg_value.specs.Plain.{AllKnown, plain}
use Rattle.sg_store.specs.Interned.{Keeps}
use Rattle.sg_tree.specs.TreeView.{tree_of}
use Rattle.sg_meaning.specs.Expressions.{eval}
use Rattle.sg_eval.specs.Machine.{state_of}
use Rattle.sg_meaning.specs.Process.{gives, sets, ◌>>=◌}
use Rattle.sg_eval.specs.Steps.{Executed}
use Rattle.sg_eval.proofs.Executing.{at_top, executed_exit, executed_memory, executed_value, executed_sets, executed_gives}
use Rattle.sg_eval.proofs.exec.assign.Goals as goal

pub returns-in_err-value-clause-done : goal.returns-in_err-value-clause-done
returns-in_err-value-clause-done c = λ taken.
    let s = state_of c.args.machine.now in
    let s1 = state_of c.eval.new.machine in
    let t = tree_of c.args.e.now in
    executed_exit plain AllKnown (eval [] t) (λ d. sets c.args.name.now d (gives tt)) c.from_residual-in_err-value.result _ s s1 taken c.from_residual-in_err-value.ensures.1 (at_top plain AllKnown _ s s1 (λ ps. eval ps t) c.requires c.in_err-value.ensures)

pub returns-in_err-set-clause-done : goal.returns-in_err-set-clause-done
returns-in_err-set-clause-done c = λ taken.
    let s = state_of c.args.machine.now in
    let s2 = state_of c.set.new.self in
    let h = c.in_ok-value.ensures in
    executed_memory (eval [] (tree_of c.args.e.now) >>= (λ d. sets c.args.name.now d (gives tt))) c.from_residual-in_err-set.result s s2 taken c.from_residual-in_err-set.ensures.1
    (subst (Keeps s.names) (sym c.in_err-set.ensures.store.names) h.keeps) (c.in_err-set.ensures.err ∙ h.variables) (c.in_err-set.ensures.store.budget ∙ h.budget)

pub returns-clause-done : goal.returns-clause-done
returns-clause-done c = λ taken.
    let s = state_of c.args.machine.now in
    let s1 = state_of c.eval.new.machine in
    let s2 = state_of c.set.new.self in
    let t = tree_of c.args.e.now in
    let x = c.args.name.now in
    let v = c.in_ok-value.value in
    let h = c.in_ok-value.ensures in
    let g = c.in_ok-set.ensures in
    executed_value plain AllKnown (eval [] t) (λ d. sets x d (gives tt)) v (Ok tt) s s1 s2 taken taken (at_top plain AllKnown (Ok v) s s1 (λ ps. eval ps t) c.requires h)
    (executed_sets x (plain (named s1.names) v) (gives tt) (Ok tt) s1 s2 s2 taken taken g.store g.ok (executed_gives tt s2 taken (g.parameters ∙ (h.parameters ∙ c.requires))))

pub returns-in_err-set_integer-clause-done : goal.returns-in_err-set_integer-clause-done
returns-in_err-set_integer-clause-done c = λ taken.
    let s = state_of c.args.machine.now in
    let s2 = state_of c.set_integer.new.self in
    let g = c.in_err-set_integer.ensures in
    executed_memory (eval [] (tree_of c.args.e.now) >>= (λ d. sets c.args.name.now d (gives tt))) c.from_residual.result s s2 taken c.from_residual.ensures.1 (subst (Keeps s.names) (sym g.store.names) (keeps_all s.names)) g.err g.store.budget

pub returns-in-Some-clause-done : goal.returns-in-Some-clause-done
returns-in-Some-clause-done c = λ taken.
    let s = state_of c.args.machine.now in
    let s2 = state_of c.set_integer.new.self in
    let t = tree_of c.args.e.now in
    let x = c.args.name.now in
    let z = c.in-Some.z in
    let v = value.Int z in
    let g = c.in_ok-set_integer.ensures in
    let fit : FitsSigned w64 z = search rules in
    let change = g.ok ∙ (ap (λ y. with_value x (int y) s.variables) (to_z-of_z w64 z fit) ∙ ap (λ d. with_value x d s.variables) (sym (plain_integer s.names v z (contents-Int z)))) in
    executed_value plain AllKnown (eval [] t) (λ d. sets x d (gives tt)) v (Ok tt) s s s2 taken taken (at_top plain AllKnown (Ok v) s s (λ ps. eval ps t) c.requires c.in-Some.ensures)
    (executed_sets x (plain (named s.names) v) (gives tt) (Ok tt) s s2 s2 taken taken g.store change (executed_gives tt s2 taken (g.parameters ∙ c.requires)))

pub returns-in-Some-others_onto-clause-done : goal.returns-in-Some-others_onto-clause-done
returns-in-Some-others_onto-clause-done c = λ taken.
    let s = state_of c.args.machine.now in
    let s1 = state_of c.grow.new.machine in
    let r = c.grow.result in
    let given = subst (λ t. Executed r s s1 taken taken (eval [] t >>= (λ d. sets c.as_slice-variable.result.now d (gives tt)))) (sym c.in-Some-others_onto.ensures) (c.grow.ensures.done taken) in
    subst (λ x. Executed r s s1 taken taken (eval [] (tree_of c.args.e.now) >>= (λ d. sets x d (gives tt)))) c.as_slice-variable.ensures given
