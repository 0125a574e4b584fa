use Rattle.std.proofs.Common.{◌≡◌, ◌<◌, ◌^◌, take, sum}
use Rattle.sg_nat.proofs.vectors.length.Given as goal

abbrev pub invariant-loop-x : goal.invariant-loop-x
invariant-loop-x l = record { so_far : l.total ≡ sum (take l.x-index l.a); small : l.total < 2 ^ 64 }
