use Rattle.std.proofs.Common.{◌≡◌, take}
use Rattle.sg_atoms.proofs.ascending.ascending.Given as goal

abbrev pub invariant-loop-vector : goal.invariant-loop-vector
invariant-loop-vector l = l.sorted.items ≡ take l.vector-index l.vectors

abbrev pub invariant-loop-vector-2 : goal.invariant-loop-vector-2
invariant-loop-vector-2 l = l.rows ≡ take l.vector-index l.vector-items
