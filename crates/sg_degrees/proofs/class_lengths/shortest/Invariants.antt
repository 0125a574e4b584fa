use Rattle.std.proofs.Common.{take}
use Rattle.sg_defs.specs.Membership.{IsFactorization}
use Rattle.sg_degrees.specs.Lengths.{IsShortestAt}
use Rattle.sg_degrees.proofs.class_lengths.shortest.Given as goal

abbrev pub invariant-loop-k : goal.invariant-loop-k
invariant-loop-k l = IsShortestAt (IsFactorization l.generators l.n) (take l.k l.row) l.shortest
