-- What an expression stands for, level by level.
use Rattle.std.proofs.Common.{◌≡◌, ℕ, ℤ, List, Bool, Box, Vec, Global, rules}
use Rattle.sg_tree.specs.Tree.{number, quoted, truth, failing, variable, call, display, span, item, minus, negation, chain, compare, plain, arrow}
use Rattle.sg_tree.specs.TreeView.{tree_of, trees_of, argument_of, arguments_of, links_of}
use Rattle.sg_tree.specs.declared.expr.Op.{Op}
use Rattle.sg_tree.specs.declared.expr.Rel.{Rel}
use Rattle.sg_tree.specs.declared.expr.Expr.{Expr, the_lemmas}
use Rattle.sg_tree.specs.declared.expr.Expr.TheVariants as expr
use Rattle.sg_tree.specs.declared.expr.Arg.{Arg, the_lemmas as argument_lemmas}
use Rattle.sg_tree.specs.declared.expr.Arg.TheVariants as arg

-- a number
pub view-Int : (z : ℤ) → tree_of (expr.Int z) ≡ number z
view-Int z = search (rules, the_lemmas)

-- a variable
pub view-Var : (x : List ℕ) → tree_of (expr.Var x) ≡ variable x
view-Var x = search (rules, the_lemmas)

-- a call
pub view-Call : (name : List ℕ) (given : Vec Arg Global) → tree_of (expr.Call name given) ≡ call name (arguments_of given.items)
view-Call name given = search (rules, the_lemmas)

-- a list of entries
pub view-Display : (es : Vec Expr Global) → tree_of (expr.Display es) ≡ display (trees_of es.items)
view-Display es = search (rules, the_lemmas)

-- a range
pub view-Span : (low high : Box Expr Global) → tree_of (expr.Span low high) ≡ span (tree_of low.value) (tree_of high.value)
view-Span low high = search (rules, the_lemmas)

-- an entry of a list
pub view-Item : (list : Box Expr Global) (indices : Vec Expr Global) → tree_of (expr.Item list indices) ≡ item (tree_of list.value) (trees_of indices.items)
view-Item list indices = search (rules, the_lemmas)

-- minus signs before an operand
pub view-Minus : (count : ℕ) (e : Box Expr Global) → tree_of (expr.Minus count e) ≡ minus count (tree_of e.value)
view-Minus count e = search (rules, the_lemmas)

-- `not` before an operand
pub view-Not : (count : ℕ) (e : Box Expr Global) → tree_of (expr.Not count e) ≡ negation count (tree_of e.value)
view-Not count e = search (rules, the_lemmas)

-- operands joined by operators
pub view-Chain : (e : Box Expr Global) (ls : Vec (Op × Expr) Global) → tree_of (expr.Chain e ls) ≡ chain (tree_of e.value) (links_of ls.items)
view-Chain e ls = search (rules, the_lemmas)

-- a comparison
pub view-Compare : (relation : Rel) (left right : Box Expr Global) → tree_of (expr.Compare relation left right) ≡ compare relation (tree_of left.value) (tree_of right.value)
view-Compare relation left right = search (rules, the_lemmas)

-- an expression as an argument
pub view-Plain : (e : Expr) → argument_of (arg.Plain e) ≡ plain (tree_of e)
view-Plain e = search (rules, argument_lemmas, the_lemmas)

-- a parameter and an expression
pub view-Arrow : (parameter : List ℕ) (e : Expr) → argument_of (arg.Arrow parameter e) ≡ arrow parameter (tree_of e)
view-Arrow parameter e = search (rules, argument_lemmas, the_lemmas)
