use Rattle.std.proofs.Common.{ap, sym, ◌∙◌}
use Rattle.std.proofs.lemmas.Slice.Eq.{bytes_eq-Decides}
use Rattle.sg_tree.specs.Tree.{variable}
use Rattle.sg_tree.specs.TreeView.{tree_of}
use Rattle.sg_tree.proofs.ExpressionLevels.{view-Var}
use Rattle.sg_eval.proofs.growth.is_name.Goals as goal

pub returns-in-Var : goal.returns-in-Var
returns-in-Var c = λ same.
    let equal = (bytes_eq-Decides c.as_slice.result.now c.args.name.now).0 (sym c.eq.ensures ∙ same) in
    ap tree_of c.in-Var.is ∙ (view-Var c.in-Var.x ∙ ap variable (sym c.as_slice.ensures ∙ equal))
