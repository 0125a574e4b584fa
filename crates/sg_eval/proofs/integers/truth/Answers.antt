use Rattle.std.proofs.Common.{ap, sym, ◌∙◌, subst, rules}
use Rattle.sg_tree.specs.Tree.{compare}
use Rattle.sg_tree.specs.TreeView.{tree_of}
use Rattle.sg_tree.proofs.ExpressionLevels.{view-Compare}
use Rattle.std.specs.Prelude.{FitsSigned, IfSome}
use Rattle.std.specs.Int.{w64}
use Rattle.sg_rows.proofs.Signed.{of_bits}
use Rattle.sg_eval.specs.AtOnce.{GivesTruth, Compares}
use Rattle.sg_meaning.specs.Expressions.{eval}
use Rattle.sg_eval.specs.Machine.{state_of}
use Rattle.sg_eval.proofs.AtOnce.{compared_there, if_some}
use Rattle.sg_eval.proofs.integers.truth.Goals as goal

pub returns-in_ok-y-in-Compare : goal.returns-in_ok-y-in-Compare
returns-in_ok-y-in-Compare c =
    let s = state_of c.args.machine.now in
    let rel = c.in-Compare.relation in
    let x = c.in_ok-x-in-Compare.x in
    let y = c.in_ok-y-in-Compare.y in
    let fit_x : FitsSigned w64 x = search rules in
    let fit_y : FitsSigned w64 y = search rules in
    let left = tree_of c.deref.result.now in
    let right = tree_of c.deref-in-Compare.result.now in
    let seen = ap tree_of c.in-Compare.is ∙ (view-Compare rel c.in-Compare.left c.in-Compare.right
    ∙ (ap (λ t. compare rel (tree_of t) (tree_of c.in-Compare.right.value)) (sym c.deref.ensures) ∙ ap (λ t. compare rel left (tree_of t)) (sym c.deref-in-Compare.ensures))) in
    subst (λ t. IfSome c.comparison.result (GivesTruth s (λ names. eval s.parameters t))) (sym seen)
    (if_some c.comparison.result (Compares rel x y) (GivesTruth s (λ names. eval s.parameters (compare rel left right)))
    (λ b h. compared_there s rel left right x y b h c.in_ok-x-in-Compare.ensures c.in_ok-y-in-Compare.ensures)
    (of_bits (λ a b. IfSome c.comparison.result (Compares rel a b)) x y fit_x fit_y c.comparison.ensures))
