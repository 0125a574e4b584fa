use Rattle.std.proofs.Common.{◌≡◌, length, take}
use Rattle.sg_defs.specs.Vectors.{meet}
use Rattle.sg_nat.proofs.vectors.meet.Given as goal

abbrev pub invariant-loop-x : goal.invariant-loop-x
invariant-loop-x l = l.least ≡ meet (take (length l.yielded) l.a) (take (length l.yielded) l.b)
