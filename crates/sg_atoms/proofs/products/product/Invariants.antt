use Rattle.std.proofs.Common.{◌≡◌, take}
use Rattle.sg_nonunique.specs.Equations.{inner_product}
use Rattle.sg_atoms.proofs.products.product.Given as goal

abbrev pub invariant-loop-place : goal.invariant-loop-place
invariant-loop-place l = l.total ≡ inner_product (take l.place l.x) (take l.place l.y)
