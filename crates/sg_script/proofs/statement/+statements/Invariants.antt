use Rattle.std.proofs.Common.{◌≡◌, ◌+◌, ◌*◌, ◌≤◌, ◌++◌, List, map, length}
use Rattle.sg_tree.specs.Tree.{Tree, Block}
use Rattle.sg_tree.specs.TreeView.{tree_of, code_of, block_of}
use Rattle.sg_script.specs.Bodies.{EndsBody, EndsChoice}
use Rattle.sg_script.specs.Grammar.{Body, Elifs}
use Rattle.sg_expression.specs.Reading.{Onward}
use Rattle.sg_script.proofs.statement.+statements.Given as goal

abbrev pub decreases-one_statement : goal.decreases-one_statement
decreases-one_statement l = 8 * length l.tokens.now

abbrev pub decreases-body : goal.decreases-body
decreases-body l = 8 * length l.tokens.now + 1

abbrev pub decreases-arm : goal.decreases-arm
decreases-arm l = 8 * length l.tokens.now + 2

abbrev pub decreases-choice : goal.decreases-choice
decreases-choice l = 8 * length l.tokens.now + 3

abbrev pub decreases-otherwise : goal.decreases-otherwise
decreases-otherwise l = 8 * length l.tokens.now + 3

abbrev pub decreases-repetition : goal.decreases-repetition
decreases-repetition l = 8 * length l.tokens.now + 3

abbrev pub decreases-body-loop-alloc : goal.decreases-body-loop-alloc
decreases-body-loop-alloc l = length l.rest

-- the statements so far, and then those of the rest
abbrev pub invariant-body-loop-alloc : goal.invariant-body-loop-alloc
invariant-body-loop-alloc l = record {
  statements : Onward Body EndsBody l.initial.rest (map code_of l.found.items) l.rest;
  shorter : length l.rest ≤ length l.initial.rest;
}

abbrev pub decreases-choice-loop-after : goal.decreases-choice-loop-after
decreases-choice-loop-after l = length l.rest

-- the arms so far, and then those of the rest
abbrev pub invariant-choice-loop-after : goal.invariant-choice-loop-after
invariant-choice-loop-after l =
    (others : List (Tree × Block)) × (map (λ a. (tree_of a.0, block_of a.1.items)) l.arms.items ≡ map (λ a. (tree_of a.0, block_of a.1.items)) l.initial.arms.items ++ others) × Onward Elifs EndsChoice l.initial.rest others l.rest × (length l.rest ≤ length l.initial.rest)
