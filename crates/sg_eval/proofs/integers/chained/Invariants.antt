use Rattle.std.proofs.Common.{ℤ, drop}
use Rattle.sg_value.specs.Plain.{plain}
use Rattle.sg_value.specs.declared.value.Value.TheVariants as value
use Rattle.sg_tree.specs.Tree.{chain}
use Rattle.sg_tree.specs.TreeView.{tree_of, links_of}
use Rattle.sg_eval.specs.AtOnce.{GivesInteger}
use Rattle.sg_meaning.specs.Expressions.{eval, eval_links}
use Rattle.sg_eval.specs.Machine.{state_of}
use Rattle.sg_eval.proofs.integers.chained.Given as goal

-- the integer that comes of the links that are left comes of all
abbrev pub invariant-loop-op : goal.invariant-loop-op
invariant-loop-op l = (w : ℤ) → GivesInteger (state_of l.machine) (λ names. eval_links (state_of l.machine).parameters (plain names (value.Int l.value)) (links_of (drop l.op-index l.links))) w
    → GivesInteger (state_of l.machine) (λ names. eval (state_of l.machine).parameters (chain (tree_of l.first) (links_of l.links))) w
