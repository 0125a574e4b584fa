use Rattle.std.proofs.Common.{ap, sym, ◌∙◌, subst, rules}
use Rattle.std.specs.Prelude.{FitsSigned, IfSome}
use Rattle.std.specs.Int.{w64}
use Rattle.std.proofs.lemmas.Int.{to_z-of_z}
use Rattle.sg_tree.specs.Tree.{variable}
use Rattle.sg_tree.specs.TreeView.{tree_of}
use Rattle.sg_tree.proofs.ExpressionLevels.{view-Int, view-Var}
use Rattle.sg_eval.specs.AtOnce.{GivesInteger}
use Rattle.sg_meaning.specs.Expressions.{eval}
use Rattle.sg_eval.specs.Machine.{state_of}
use Rattle.sg_eval.proofs.AtOnce.{number_there}
use Rattle.sg_eval.proofs.integers.operand.Goals as goal

pub returns-in-Int : goal.returns-in-Int
returns-in-Int c =
    let s = state_of c.args.machine.now in
    let z = c.in-Int.z in
    let fit : FitsSigned w64 z = search rules in
    subst (GivesInteger s (λ names. eval s.parameters (tree_of c.args.e.now))) (sym (to_z-of_z w64 z fit))
    (subst (λ t. GivesInteger s (λ names. eval s.parameters t) z) (sym (ap tree_of c.in-Int.is ∙ view-Int z)) (number_there s z))

pub returns-in-Var : goal.returns-in-Var
returns-in-Var c =
    let s = state_of c.args.machine.now in
    let seen = ap tree_of c.in-Var.is ∙ (view-Var c.in-Var.name ∙ ap variable (sym c.as_slice.ensures)) in
    subst (λ t. IfSome c.integer_named.result (GivesInteger s (λ names. eval s.parameters t))) (sym seen) c.integer_named.ensures
