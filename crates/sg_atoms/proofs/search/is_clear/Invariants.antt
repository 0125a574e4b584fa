use Rattle.std.proofs.Common.{take}
use Rattle.sg_atoms.specs.Growth.{IsFree}
use Rattle.sg_atoms.proofs.search.is_clear.Given as goal

abbrev pub invariant-loop-atom : goal.invariant-loop-atom
invariant-loop-atom l = IsFree (take l.atom-index l.atoms) l.vector
