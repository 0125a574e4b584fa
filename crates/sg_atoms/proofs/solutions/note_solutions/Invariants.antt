use Rattle.std.proofs.Common.{take}
use Rattle.std.specs.Prelude.{Contains}
use Rattle.sg_nonunique.specs.Equations.{IsSolution}
use Rattle.sg_atoms.specs.Growth.{Gathers}
use Rattle.sg_atoms.specs.Matrices.{rows_of}
use Rattle.sg_atoms.proofs.solutions.note_solutions.Given as goal

abbrev pub invariant-loop-vector : goal.invariant-loop-vector
invariant-loop-vector l = Gathers (λ q. Contains (take l.vector-index l.level) q × IsSolution (rows_of l.equations) l.equations q) l.fn.atoms l.atoms
