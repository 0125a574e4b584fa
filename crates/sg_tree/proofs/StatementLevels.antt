-- What a statement stands for, level by level.
use Rattle.std.proofs.Common.{◌≡◌, ℕ, List, Vec, Global, rules}
use Rattle.std.proofs.lemmas.Simd.{map-map}
use Rattle.sg_tree.specs.Tree.{nothing, quit, assign, choose, each, perform}
use Rattle.sg_tree.specs.TreeView.{tree_of, code_of, block_of, arms_of}
use Rattle.sg_tree.specs.declared.expr.Expr.{Expr}
use Rattle.sg_tree.specs.declared.stmt.Stmt.{Stmt, the_lemmas}
use Rattle.sg_tree.specs.declared.stmt.Stmt.TheVariants as stmt

-- the empty statement
pub view-Empty : code_of stmt.Empty ≡ nothing
view-Empty = search (rules, the_lemmas)

-- the end of the script
pub view-Quit : code_of stmt.Quit ≡ quit
view-Quit = search (rules, the_lemmas)

-- an assignment
pub view-Assign : (x : List ℕ) (e : Expr) → code_of (stmt.Assign x e) ≡ assign x (tree_of e)
view-Assign x e = search (rules, the_lemmas)

-- a choice
pub view-If : (guarded : Vec (Expr × Vec Stmt Global) Global) (other : Vec Stmt Global) → code_of (stmt.If guarded other) ≡ choose (arms_of guarded.items) (block_of other.items)
view-If guarded other = search (rules, the_lemmas, map-map)

-- a repetition
pub view-For : (x : List ℕ) (e : Expr) (body : Vec Stmt Global) → code_of (stmt.For x e body) ≡ each x (tree_of e) (block_of body.items)
view-For x e body = search (rules, the_lemmas)

-- an expression as a statement
pub view-Do : (e : Expr) → code_of (stmt.Do e) ≡ perform (tree_of e)
view-Do e = search (rules, the_lemmas)
