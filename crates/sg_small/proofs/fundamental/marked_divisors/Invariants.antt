use Rattle.std.proofs.Common.{◌<◌}
use Rattle.sg_defs.specs.Listings.{Lists}
use Rattle.sg_small.specs.Fundamental.{IsDivisor}
use Rattle.sg_small.proofs.fundamental.marked_divisors.Given as goal

abbrev pub invariant-loop-divisor : goal.invariant-loop-divisor
invariant-loop-divisor l = Lists (λ d. (d < l.divisor) × IsDivisor l.marks d) l.divisors.items
