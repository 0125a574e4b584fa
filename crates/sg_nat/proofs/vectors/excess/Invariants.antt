use Rattle.std.proofs.Common.{◌≡◌, ◌≤◌, length, take, sum}
use Rattle.sg_defs.specs.Vectors.{meet, minus}
use Rattle.sg_nat.proofs.vectors.excess.Given as goal

abbrev pub invariant-loop-x : goal.invariant-loop-x
invariant-loop-x l = record {
  so_far : l.total ≡ sum (minus (take (length l.yielded) l.a) (meet (take (length l.yielded) l.a) (take (length l.yielded) l.b)));
  small : l.total ≤ sum (take (length l.yielded) l.a);
}
