use Rattle.sg_small.specs.Small.{IsComplement}
use Rattle.sg_small.proofs.gaps.complement.Given as goal

abbrev pub invariant-loop-n : goal.invariant-loop-n
invariant-loop-n l = IsComplement l.gaps l.list.items l.next l.n
