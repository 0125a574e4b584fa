use Rattle.std.proofs.Common.{◌≡◌, ◌+◌, ◌*◌, ◌≤◌, ◌++◌, List, map, length}
use Rattle.sg_tree.specs.Tree.{Tree, Argument}
use Rattle.sg_tree.specs.TreeView.{tree_of, argument_of}
use Rattle.sg_expression.specs.Grammar.{Operand, Atom, Linked, Indices, Entries, MoreGiven}
use Rattle.sg_expression.specs.Reading.{Found, Onward, Always}
use Rattle.sg_expression.specs.Binding.{StopsAt, level}
use Rattle.sg_expression.proofs.Weights.{weight}
use Rattle.sg_expression.proofs.expression.+expressions.Given as goal

abbrev pub decreases-closed : goal.decreases-closed
decreases-closed l = 16 * length l.tokens.now + 14

abbrev pub decreases-argument : goal.decreases-argument
decreases-argument l = 16 * length l.tokens.now + 14

abbrev pub decreases-bracketed : goal.decreases-bracketed
decreases-bracketed l = 16 * length l.tokens.now + 15

abbrev pub decreases-listed : goal.decreases-listed
decreases-listed l = 16 * length l.tokens.now

abbrev pub decreases-named : goal.decreases-named
decreases-named l = 16 * length l.tokens.now + 15

abbrev pub decreases-chain : goal.decreases-chain
decreases-chain l = 16 * length l.tokens.now + weight l.rank + 1

abbrev pub decreases-operand : goal.decreases-operand
decreases-operand l = 16 * length l.tokens.now + weight l.rank

abbrev pub decreases-compared : goal.decreases-compared
decreases-compared l = 16 * length l.tokens.now + 8

abbrev pub decreases-item : goal.decreases-item
decreases-item l = 16 * length l.tokens.now + 2

abbrev pub decreases-atom : goal.decreases-atom
decreases-atom l = 16 * length l.tokens.now + 1

abbrev pub decreases-chain-loop-op : goal.decreases-chain-loop-op
decreases-chain-loop-op l = length l.rest

-- the links so far, and then those of the rest
abbrev pub invariant-chain-loop-op : goal.invariant-chain-loop-op
invariant-chain-loop-op l = record {
  first : Found (Operand l.rank) (StopsAt (level l.rank + 1)) l.fn.tokens (tree_of l.first) l.initial.rest;
  links : Onward (Linked l.rank) (StopsAt (level l.rank)) l.initial.rest (map (λ k. (k.0, tree_of k.1)) l.links.items) l.rest;
  shorter : length l.rest ≤ length l.initial.rest;
}

abbrev pub decreases-item-loop-after : goal.decreases-item-loop-after
decreases-item-loop-after l = length l.rest

-- the indices so far, and then those of the rest
abbrev pub invariant-item-loop-after : goal.invariant-item-loop-after
invariant-item-loop-after l = record {
  list : Found Atom (StopsAt 7) l.fn.tokens (tree_of l.list) l.initial.rest;
  indices : Onward Indices (StopsAt 6) l.initial.rest (map tree_of l.indices.items) l.rest;
  shorter : length l.rest ≤ length l.initial.rest;
}

abbrev pub decreases-listed-loop-after : goal.decreases-listed-loop-after
decreases-listed-loop-after l = length l.rest

-- the entries so far, and then those of the rest
abbrev pub invariant-listed-loop-after : goal.invariant-listed-loop-after
invariant-listed-loop-after l =
    (others : List Tree) × (map tree_of l.entries.items ≡ map tree_of l.initial.entries.items ++ others) × Onward Entries Always l.initial.rest others l.rest × (length l.rest ≤ length l.initial.rest)

abbrev pub decreases-arguments : goal.decreases-arguments
decreases-arguments l = 16 * length l.tokens.now + 15

abbrev pub decreases-arguments-loop-after : goal.decreases-arguments-loop-after
decreases-arguments-loop-after l = length l.rest

-- the arguments so far, and then those of the rest
abbrev pub invariant-arguments-loop-after : goal.invariant-arguments-loop-after
invariant-arguments-loop-after l =
    (others : List Argument) × (map argument_of l.given.items ≡ map argument_of l.initial.given.items ++ others) × Onward MoreGiven Always l.initial.rest others l.rest × (length l.rest ≤ length l.initial.rest)
