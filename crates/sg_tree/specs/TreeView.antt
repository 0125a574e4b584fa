-- The plain data that a tree stands for.
use Rattle.std.specs.Prelude.{List, map, Vec}
use Rattle.std.specs.Global.{Global}
use Rattle.sg_tree.specs.Tree.{Tree, number, quoted, truth, failing, variable, call, display, span, item, minus, negation, chain, compare, Trees, Argument, plain, arrow, Arguments, Links, Code, nothing, quit, assign, choose, each, perform, Arms, Block, trees, arguments, links, block, arms}
use Rattle.sg_tree.specs.declared.expr.Op.{Op}
use Rattle.sg_tree.specs.declared.expr.Expr.{Expr, fold-Expr}
use Rattle.sg_tree.specs.declared.expr.Arg.{Arg, fold-Arg}
use Rattle.sg_tree.specs.declared.expr.Arg.TheOpen.{Arg-F, Expr-F}
use Rattle.sg_tree.specs.declared.stmt.Stmt.{Stmt, fold-Stmt}
use Rattle.sg_tree.specs.declared.stmt.Stmt.TheOpen.{Stmt-F}

abbrev pub argument_step : Arg-F Argument Tree → Argument
argument_step (Arg-F.Plain t) = plain t
argument_step (Arg-F.Arrow parameter t) = arrow parameter t

abbrev pub tree_step : Expr-F Argument Tree → Tree
tree_step (Expr-F.Int z) = number z
tree_step (Expr-F.Text bs) = quoted bs
tree_step (Expr-F.Bool b) = truth b
tree_step Expr-F.Fail = failing
tree_step (Expr-F.Var x) = variable x
tree_step (Expr-F.Call name given) = call name (arguments given.items)
tree_step (Expr-F.Display ts) = display (trees ts.items)
tree_step (Expr-F.Span low high) = span low.value high.value
tree_step (Expr-F.Item list indices) = item list.value (trees indices.items)
tree_step (Expr-F.Minus count t) = minus count t.value
tree_step (Expr-F.Not count t) = negation count t.value
tree_step (Expr-F.Chain t ls) = chain t.value (links ls.items)
tree_step (Expr-F.Compare relation left right) = compare relation left.value right.value

-- what an expression stands for
abbrev pub tree_of : Expr → Tree
tree_of = fold-Expr Argument Tree argument_step tree_step

-- what an argument stands for
abbrev pub argument_of : Arg → Argument
argument_of = fold-Arg Argument Tree argument_step tree_step

-- what entries or indices stand for
abbrev pub trees_of : List Expr → Trees
trees_of es = trees (map tree_of es)

-- what arguments stand for
abbrev pub arguments_of : List Arg → Arguments
arguments_of given = arguments (map argument_of given)

-- what operators and their operands stand for
abbrev pub links_of : List (Op × Expr) → Links
links_of ls = links (map (λ l. (l.0, tree_of l.1)) ls)

abbrev pub code_step : Stmt-F Code → Code
code_step Stmt-F.Empty = nothing
code_step Stmt-F.Quit = quit
code_step (Stmt-F.Assign x e) = assign x (tree_of e)
code_step (Stmt-F.If guarded other) = choose (arms (map (λ a. (tree_of a.0, block a.1.items)) guarded.items)) (block other.items)
code_step (Stmt-F.For x e body) = each x (tree_of e) (block body.items)
code_step (Stmt-F.Do e) = perform (tree_of e)

-- what a statement stands for
abbrev pub code_of : Stmt → Code
code_of = fold-Stmt Code code_step

-- what a block stands for
abbrev pub block_of : List Stmt → Block
block_of ss = block (map code_of ss)

-- what the arms of a choice stand for
abbrev pub arms_of : List (Expr × Vec Stmt Global) → Arms
arms_of guarded = arms (map (λ a. (tree_of a.0, block_of a.1.items)) guarded)
