use Rattle.std.proofs.Common.{take}
use Rattle.sg_defs.specs.Membership.{IsFactorization}
use Rattle.sg_degrees.specs.Greatest.{IsGreatestOver}
use Rattle.sg_degrees.specs.Lengths.{IsLongestClass}
use Rattle.sg_degrees.proofs.degree.longest_of.Given as goal

abbrev pub invariant-loop-n : goal.invariant-loop-n
invariant-loop-n l = IsGreatestOver (λ n. IsLongestClass (IsFactorization l.t n)) (take l.n-index l.values) l.longest
