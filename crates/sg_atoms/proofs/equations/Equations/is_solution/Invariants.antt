use Rattle.std.proofs.Common.{◌≡◌, ◌<◌, ℕ, pos, [], get_or}
use Rattle.sg_nonunique.specs.Equations.{image_of, inner_product}
use Rattle.sg_atoms.specs.Matrices.{rows_of}
use Rattle.sg_atoms.proofs.equations.Equations.is_solution.Given as goal

abbrev pub invariant-loop-place : goal.invariant-loop-place
invariant-loop-place l = (i : ℕ) → i < l.place → inner_product (image_of (rows_of l.self) l.self l.p) (get_or l.self i []) ≡ pos 0
