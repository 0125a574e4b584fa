use Rattle.std.proofs.Common.{ℕ, ◌<◌, ◌^◌, pos, drop, ◌∷◌}
use Rattle.sg_rows_lists.specs.Integers.{IsLcmOfAll}
use Rattle.sg_rows_lists.proofs.divisors.multiple_of_others.Given as goal

-- the multiple so far and the entries to come have the least common multiple of all
abbrev pub invariant-loop-z : goal.invariant-loop-z
invariant-loop-z l = record {
  small : l.multiple < 2 ^ 64;
  rest : (m : ℕ) → IsLcmOfAll l.zs m → IsLcmOfAll (pos l.multiple ∷ drop l.z-index l.zs) m;
}
