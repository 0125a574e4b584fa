-- Expressions and statements as plain data.
use Rattle.std.specs.Prelude.{ℕ, ℤ, Bool, List, [], ◌∷◌}
use Rattle.sg_tree.specs.declared.expr.Op.{Op}
use Rattle.sg_tree.specs.declared.expr.Rel.{Rel}

-- an expression, an argument, and the lists in them
mutual
  pub data Tree : Type 0 where
    number : ℤ → Tree
    quoted : List ℕ → Tree
    truth : Bool → Tree
    failing : Tree
    variable : List ℕ → Tree
    call : List ℕ → Arguments → Tree
    display : Trees → Tree
    span : Tree → Tree → Tree
    item : Tree → Trees → Tree
    minus : ℕ → Tree → Tree
    negation : ℕ → Tree → Tree
    chain : Tree → Links → Tree
    compare : Rel → Tree → Tree → Tree

  pub data Trees : Type 0 where
    no_trees : Trees
    tree : Tree → Trees → Trees

  pub data Argument : Type 0 where
    plain : Tree → Argument
    arrow : List ℕ → Tree → Argument

  pub data Arguments : Type 0 where
    no_arguments : Arguments
    argument : Argument → Arguments → Arguments

  pub data Links : Type 0 where
    no_links : Links
    link : Op → Tree → Links → Links

-- a statement, the arms of a choice, and a block
mutual
  pub data Code : Type 0 where
    nothing : Code
    quit : Code
    assign : List ℕ → Tree → Code
    choose : Arms → Block → Code
    each : List ℕ → Tree → Block → Code
    perform : Tree → Code

  pub data Arms : Type 0 where
    no_arms : Arms
    arm : Tree → Block → Arms → Arms

  pub data Block : Type 0 where
    skip : Block
    code : Code → Block → Block

-- the entries one after the other
abbrev pub trees : List Tree → Trees
trees [] = no_trees
trees (t ∷ ts) = tree t (trees ts)

-- arguments, one after the other
abbrev pub arguments : List Argument → Arguments
arguments [] = no_arguments
arguments (a ∷ others) = argument a (arguments others)

-- operators and their operands
abbrev pub links : List (Op × Tree) → Links
links [] = no_links
links (l ∷ ls) = link l.0 l.1 (links ls)

-- statements
abbrev pub block : List Code → Block
block [] = skip
block (c ∷ cs) = code c (block cs)

-- arms of a choice
abbrev pub arms : List (Tree × Block) → Arms
arms [] = no_arms
arms (a ∷ others) = arm a.0 a.1 (arms others)
