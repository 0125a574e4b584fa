use Rattle.std.proofs.Common.{◌≡◌, map, take, pos}
use Rattle.sg_ideal.proofs.own.integers.Given as goal

abbrev pub invariant-loop-number : goal.invariant-loop-number
invariant-loop-number l = l.list ≡ map (λ n. pos n) (take l.number-index l.numbers)
