-- What holds in every tree that a text can have.
use Rattle.std.specs.Prelude.{◌≤◌, Bool, true, false, IsTrue, ⊤}
use Rattle.sg_tree.specs.declared.expr.Op.{Op}
use Rattle.sg_tree.specs.declared.expr.Op.TheVariants.{Or, And, Plus, Less, Times, Mod}
use Rattle.sg_tree.specs.Tree.{Tree, number, quoted, truth, failing, variable, call, display, span, item, minus, negation, chain, compare, Trees, no_trees, tree, Argument, plain, arrow, Arguments, no_arguments, argument, Links, no_links, link, Code, nothing, quit, assign, choose, each, perform, Arms, no_arms, arm, Block, skip, code}

-- whether two operators have the same rank: both are or, both are and, both add, or both multiply
abbrev pub same_rank : Op → Op → Bool
same_rank Or Or = true
same_rank And And = true
same_rank Plus Plus = true
same_rank Plus Less = true
same_rank Less Plus = true
same_rank Less Less = true
same_rank Times Times = true
same_rank Times Mod = true
same_rank Mod Times = true
same_rank Mod Mod = true
same_rank op other = false

-- there is at least one tree
abbrev pub HasTree : Trees → Type 0
HasTree no_trees = ⊥
HasTree (tree t ts) = ⊤

-- all operators have the rank of the given one
abbrev pub AllOfRank : Op → Links → Type 0
AllOfRank op no_links = ⊤
AllOfRank op (link other t ls) = IsTrue (same_rank op other) × AllOfRank op ls

-- there is at least one operator, and all have one rank
abbrev pub IsOfOneRank : Links → Type 0
IsOfOneRank no_links = ⊥
IsOfOneRank (link op t ls) = AllOfRank op ls

-- in the tree and in all its parts, each item has an index, each count of signs is at least 1, and each chain has
-- operators, all of one rank
abbrev mutual
  pub IsWellFormed : Tree → Type 0
  IsWellFormed (number z) = ⊤
  IsWellFormed (quoted bs) = ⊤
  IsWellFormed (truth b) = ⊤
  IsWellFormed failing = ⊤
  IsWellFormed (variable x) = ⊤
  IsWellFormed (call name given) = AreWellFormedArguments given
  IsWellFormed (display ts) = AreWellFormed ts
  IsWellFormed (span low high) = IsWellFormed low × IsWellFormed high
  IsWellFormed (item list indices) = HasTree indices × IsWellFormed list × AreWellFormed indices
  IsWellFormed (minus count t) = (1 ≤ count) × IsWellFormed t
  IsWellFormed (negation count t) = (1 ≤ count) × IsWellFormed t
  IsWellFormed (chain t ls) = IsOfOneRank ls × IsWellFormed t × AreWellFormedLinks ls
  IsWellFormed (compare relation left right) = IsWellFormed left × IsWellFormed right

  pub AreWellFormed : Trees → Type 0
  AreWellFormed no_trees = ⊤
  AreWellFormed (tree t ts) = IsWellFormed t × AreWellFormed ts

  pub IsWellFormedArgument : Argument → Type 0
  IsWellFormedArgument (plain t) = IsWellFormed t
  IsWellFormedArgument (arrow parameter t) = IsWellFormed t

  pub AreWellFormedArguments : Arguments → Type 0
  AreWellFormedArguments no_arguments = ⊤
  AreWellFormedArguments (argument a others) = IsWellFormedArgument a × AreWellFormedArguments others

  pub AreWellFormedLinks : Links → Type 0
  AreWellFormedLinks no_links = ⊤
  AreWellFormedLinks (link op t ls) = IsWellFormed t × AreWellFormedLinks ls

-- a statement other than the one that ends the script
abbrev pub GoesOn : Code → Type 0
GoesOn nothing = ⊤
GoesOn quit = ⊥
GoesOn (assign x t) = ⊤
GoesOn (choose guarded other) = ⊤
GoesOn (each x t body) = ⊤
GoesOn (perform t) = ⊤

-- all expressions in the statement are well formed, and no block in it ends the script
abbrev mutual
  pub IsWellFormedCode : Code → Type 0
  IsWellFormedCode nothing = ⊤
  IsWellFormedCode quit = ⊤
  IsWellFormedCode (assign x t) = IsWellFormed t
  IsWellFormedCode (choose guarded other) = AreWellFormedArms guarded × IsWellFormedBlock other
  IsWellFormedCode (each x t body) = IsWellFormed t × IsWellFormedBlock body
  IsWellFormedCode (perform t) = IsWellFormed t

  pub AreWellFormedArms : Arms → Type 0
  AreWellFormedArms no_arms = ⊤
  AreWellFormedArms (arm test body others) = IsWellFormed test × IsWellFormedBlock body × AreWellFormedArms others

  pub IsWellFormedBlock : Block → Type 0
  IsWellFormedBlock skip = ⊤
  IsWellFormedBlock (code c cs) = GoesOn c × IsWellFormedCode c × IsWellFormedBlock cs
