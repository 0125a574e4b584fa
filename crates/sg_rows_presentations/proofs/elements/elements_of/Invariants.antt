use Rattle.std.proofs.Common.{◌≡◌, map, take}
use Rattle.sg_rows_presentations.proofs.Reading.{value_of}
use Rattle.sg_rows_presentations.proofs.elements.elements_of.Given as goal

-- the values so far are those of the first relations
abbrev pub invariant-loop-relation : goal.invariant-loop-relation
invariant-loop-relation l = l.values.items ≡ map value_of (take l.relation-index l.relation-items)
