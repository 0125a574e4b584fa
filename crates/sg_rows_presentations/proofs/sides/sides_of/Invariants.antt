use Rattle.std.proofs.Common.{◌≡◌, map, take}
use Rattle.sg_rows_presentations.specs.Read.{sides}
use Rattle.sg_rows_presentations.proofs.sides.sides_of.Given as goal

-- the lists so far are the sides of the first relations
abbrev pub invariant-loop-relation : goal.invariant-loop-relation
invariant-loop-relation l = l.lists ≡ map sides (take l.relation-index l.relation-items)
