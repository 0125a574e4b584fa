use Rattle.std.proofs.Common.{ap, ◌∙◌}
use Rattle.sg_tree.specs.Tree.{argument}
use Rattle.sg_tree.specs.TreeView.{arguments_of}
use Rattle.sg_eval.proofs.growth.behind.Goals as goal

pub returns-then-is_named : goal.returns-then-is_named
returns-then-is_named c =
    ap arguments_of c.in_ok-first.ensures.cases.0 ∙ ap (λ a. argument a (arguments_of c.in_ok-first.others.now)) (c.is_named.ensures c.if-is_named.true)
