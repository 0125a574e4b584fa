use Rattle.std.proofs.Common.{ap, sym, ◌∙◌}
use Rattle.std.proofs.lemmas.Slice.Eq.{bytes_eq-Decides}
use Rattle.sg_tree.specs.Tree.{call}
use Rattle.sg_tree.specs.TreeView.{tree_of, arguments_of}
use Rattle.sg_tree.proofs.ExpressionLevels.{view-Call}
use Rattle.sg_eval.proofs.Growing.{onto_same}
use Rattle.sg_eval.proofs.growth.others_onto.Goals as goal

pub returns-then-eq : goal.returns-then-eq
returns-then-eq c =
    let command = c.in-Call.command in
    let args = c.in-Call.args in
    let equal = (bytes_eq-Decides c.as_slice.result.now c.as_slice-in-Call.result.now).0 (sym c.eq.ensures ∙ c.if-eq.true) in
    let seen = ap tree_of c.in-Call.is ∙ (view-Call command args
    ∙ (ap (λ x. call x (arguments_of args.items)) (sym c.as_slice.ensures ∙ (equal ∙ c.as_slice-in-Call.ensures)) ∙ ap (λ gs. call _ (arguments_of gs)) (sym c.deref.ensures.value))) in
    onto_same (tree_of c.args.e.now) c.args.name.now (arguments_of c.deref.result.now) c.behind.result seen c.behind.ensures
