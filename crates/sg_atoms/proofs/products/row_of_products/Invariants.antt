use Rattle.std.proofs.Common.{◌≡◌, take}
use Rattle.sg_atoms.specs.Matrices.{products_with}
use Rattle.sg_atoms.proofs.products.row_of_products.Given as goal

abbrev pub invariant-loop-other : goal.invariant-loop-other
invariant-loop-other l = l.row ≡ products_with (take l.other-index l.columns) l.column
