use Rattle.std.proofs.Common.{ap, ◌∙◌}
use Rattle.sg_tree.specs.Tree.{plain}
use Rattle.sg_tree.specs.TreeView.{argument_of}
use Rattle.sg_tree.proofs.ExpressionLevels.{view-Plain}
use Rattle.sg_eval.proofs.growth.is_named.Goals as goal

pub returns-in-Plain : goal.returns-in-Plain
returns-in-Plain c = λ same. ap argument_of c.in-Plain.is ∙ (view-Plain c.in-Plain.e ∙ ap plain (c.is_name.ensures same))
