use Rattle.std.proofs.Common.{ℕ, pos, drop, ◌∷◌}
use Rattle.sg_rows_lists.specs.Integers.{IsGcdOfAll}
use Rattle.sg_rows_lists.proofs.divisors.common_divisor.Given as goal

-- the divisor so far and the entries to come have the greatest common divisor of all
abbrev pub invariant-loop-z : goal.invariant-loop-z
invariant-loop-z l = (g : ℕ) → IsGcdOfAll (pos l.divisor ∷ drop l.z-index l.zs) g → IsGcdOfAll l.zs g
