use Rattle.std.proofs.Common.{take}
use Rattle.sg_defs.specs.Membership.{IsFactorization}
use Rattle.sg_degrees.specs.Greatest.{IsGreatestOver}
use Rattle.sg_degrees.specs.Lengths.{IsWidest}
use Rattle.sg_degrees.proofs.deltas.widest_delta.Given as goal

abbrev pub invariant-loop-n : goal.invariant-loop-n
invariant-loop-n l = IsGreatestOver (λ n. IsWidest (IsFactorization l.table.generators n)) (take l.n-index l.values) l.widest
