use Rattle.std.proofs.Common.{◌≡◌, take}
use Rattle.sg_atoms.specs.Matrices.{weighted}
use Rattle.sg_atoms.proofs.products.weight.Given as goal

abbrev pub invariant-loop-place : goal.invariant-loop-place
invariant-loop-place l = l.total ≡ weighted (take l.place l.row) (take l.place l.p)
