use Rattle.std.proofs.Common.{ap, sym, ◌∙◌, subst}
use Rattle.std.specs.Prelude.{IfSome}
use Rattle.sg_tree.specs.Tree.{chain}
use Rattle.sg_tree.specs.TreeView.{tree_of, links_of}
use Rattle.sg_tree.proofs.ExpressionLevels.{view-Chain}
use Rattle.sg_eval.specs.AtOnce.{GivesInteger}
use Rattle.sg_meaning.specs.Expressions.{eval}
use Rattle.sg_eval.specs.Machine.{state_of}
use Rattle.sg_eval.proofs.integers.integer.Goals as goal

pub returns-in-Chain : goal.returns-in-Chain
returns-in-Chain c =
    let s = state_of c.args.machine.now in
    let first = tree_of c.deref.result.now in
    let seen = ap tree_of c.in-Chain.is ∙ (view-Chain c.in-Chain.first c.in-Chain.links
    ∙ (ap (λ x. chain (tree_of x) (links_of c.in-Chain.links.items)) (sym c.deref.ensures) ∙ ap (λ xs. chain first (links_of xs)) (sym c.deref-in-Chain.ensures.value))) in
    subst (λ t. IfSome c.chained.result (GivesInteger s (λ names. eval s.parameters t))) (sym seen) c.chained.ensures
