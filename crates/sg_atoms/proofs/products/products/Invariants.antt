use Rattle.std.proofs.Common.{◌≡◌, take, map}
use Rattle.sg_atoms.specs.Matrices.{products_with}
use Rattle.sg_atoms.proofs.products.products.Given as goal

abbrev pub invariant-loop-column : goal.invariant-loop-column
invariant-loop-column l = l.rows ≡ map (products_with l.columns) (take l.column-index l.columns)
