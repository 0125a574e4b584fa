use Rattle.std.proofs.Common.{take}
use Rattle.sg_defs.specs.Membership.{IsFactorization}
use Rattle.sg_degrees.specs.Greatest.{IsGreatestOver}
use Rattle.sg_degrees.specs.Lengths.{IsShortestAt}
use Rattle.sg_degrees.proofs.class_lengths.longest_row.Given as goal

abbrev pub invariant-loop-row : goal.invariant-loop-row
invariant-loop-row l = IsGreatestOver (IsShortestAt (IsFactorization l.generators l.n)) (take l.row-index l.rows) l.longest
