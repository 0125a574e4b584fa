-- How much smaller the parts of a statement are.
use Rattle.std.proofs.Common.{◌≡◌, ◌<◌, ◌≤◌, ℕ, List, Vec, Global, length, get_or, sym, subst, rules}
use Rattle.sg_tree.specs.declared.expr.Expr.{Expr}
use Rattle.sg_tree.specs.declared.stmt.Stmt.{Stmt, the_lemmas}
use Rattle.sg_tree.specs.declared.stmt.Stmt.TheVariants as stmt
use Rattle.sg_tree.proofs.stmt.Stmt.TheLaws.{the_size}
use denote.Param.Weighed.{most, at_most}

-- the size of the greatest statement of a block, and of a block of an arm
abbrev pub block_size : List Stmt → ℕ
block_size ss = most (λ s. the_size s) ss

-- the size of the arms
abbrev pub arms_size : List (Expr × Vec Stmt Global) → ℕ
arms_size guarded = most (λ a. block_size a.1.items) guarded

-- the arms are smaller than the statement
pub size-arms : (guarded : Vec (Expr × Vec Stmt Global) Global) (other : Vec Stmt Global) → arms_size guarded.items < the_size (stmt.If guarded other)
size-arms guarded other = search (rules, the_lemmas)

-- so is the other block
pub size-other : (guarded : Vec (Expr × Vec Stmt Global) Global) (other : Vec Stmt Global) → block_size other.items < the_size (stmt.If guarded other)
size-other guarded other = search (rules, the_lemmas)

pub size-body : (x : List ℕ) (e : Expr) (body : Vec Stmt Global) → block_size body.items < the_size (stmt.For x e body)
size-body x e body = search (rules, the_lemmas)

-- no statement is larger than its block
pub statement-at : (ss : List Stmt) (i : ℕ) (c : Stmt) → i < length ss → c ≡ get_or ss i c → the_size c ≤ block_size ss
statement-at ss i c within is = let h : the_size (get_or ss i c) ≤ block_size ss = at_most (λ s. the_size s) ss i c within in subst (λ x. the_size x ≤ block_size ss) (sym is) h

-- no block of an arm is larger than the arms
pub arm-at : (guarded : List (Expr × Vec Stmt Global)) (i : ℕ) (a : Expr × Vec Stmt Global) → i < length guarded → a ≡ get_or guarded i a → block_size a.1.items ≤ arms_size guarded
arm-at guarded i a within is =
    let h : block_size (get_or guarded i a).1.items ≤ arms_size guarded = at_most (λ x. block_size x.1.items) guarded i a within in
    subst (λ (x : Expr × Vec Stmt Global). block_size x.1.items ≤ arms_size guarded) (sym is) h
