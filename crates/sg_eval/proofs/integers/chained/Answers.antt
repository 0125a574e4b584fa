use Rattle.std.proofs.Common.{◌+◌, drop, sym, subst, rules}
use Rattle.std.specs.Prelude.{FitsSigned}
use Rattle.std.specs.Int.{w64}
use mir.Val.{to_z, of_z}
use Rattle.std.proofs.lemmas.Int.{to_z-of_z}
use Rattle.std.proofs.lemmas.List.{drop_all}
use Rattle.sg_value.specs.Plain.{plain}
use Rattle.sg_value.specs.declared.value.Value.TheVariants as value
use Rattle.sg_tree.specs.TreeView.{tree_of, links_of}
use Rattle.sg_eval.specs.AtOnce.{GivesInteger, Calculates}
use Rattle.sg_meaning.specs.Expressions.{eval, eval_links}
use Rattle.sg_eval.specs.Machine.{state_of}
use Rattle.sg_eval.proofs.AtOnce.{chain_there, link_there, links_over}
use Rattle.sg_eval.proofs.Steps.{links_of-drop}
use Rattle.sg_eval.proofs.integers.chained.Goals as goal

pub loop-op-init : goal.loop-op-init
loop-op-init c = λ w h.
    let s = state_of c.args.machine.now in
    let x = c.in_ok-value.value in
    let fit : FitsSigned w64 x = search rules in
    let t = tree_of c.args.first.now in
    chain_there s t (links_of c.args.links.now) (to_z w64 (of_z w64 x)) w (subst (GivesInteger s (λ names. eval s.parameters t)) (sym (to_z-of_z w64 x fit)) c.in_ok-value.ensures) h

pub loop-op-preserved : goal.loop-op-preserved
loop-op-preserved c = λ w h.
    let s = state_of c.args.machine.now in
    let i = c.loop-op.op-index in
    let all = c.args.links.now in
    let l = c.loop-op-item.result in
    let t = tree_of l.1 in
    let ls = links_of (drop (i + 1) all) in
    let x = to_z w64 c.loop-op.value-bits in
    let y = c.in_ok-operand.field-0 in
    let z = c.in_ok-value-2.value in
    let fit_y : FitsSigned w64 y = search rules in
    let fit_z : FitsSigned w64 z = search rules in
    c.loop-op.invariant w (subst (λ ls. GivesInteger s (λ names. eval_links s.parameters (plain names (value.Int x)) ls) w) (sym (links_of-drop all i l c.loop-op-test.true c.loop-op-item.is))
    (link_there s l.0 t ls x y (to_z w64 (of_z w64 z)) (subst (Calculates l.0 x y) (sym (to_z-of_z w64 z fit_z)) (subst (λ k. Calculates l.0 x k z) (to_z-of_z w64 y fit_y) c.in_ok-value-2.ensures)) c.in_ok-operand.ensures w h))

pub returns : goal.returns
returns c =
    let s = state_of c.args.machine.now in
    let x = to_z w64 c.loop-op.value-bits in
    c.loop-op.invariant x (subst (λ ls. GivesInteger s (λ names. eval_links s.parameters (plain names (value.Int x)) (links_of ls)) x) (sym (drop_all c.loop-op.op-index c.args.links.now c.loop-op-test.false)) (links_over s x))
