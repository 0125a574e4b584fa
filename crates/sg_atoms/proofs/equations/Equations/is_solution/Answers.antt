use Rattle.std.proofs.Common.{[], get_or, refl, ap, ◌∙◌, arith}
use mir.Syntax.{w64}
use mir.Val.{of_z}
use Rattle.sg_atoms.specs.Matrices.{rows_of}
use Rattle.sg_atoms.proofs.ProductLemmas.{solution-products, solution-from_products}
use Rattle.sg_atoms.proofs.equations.Equations.is_solution.Goals as goal

pub returns-then-product_with_image-ne0 : goal.returns-then-product_with_image-ne0
returns-then-product_with_image-ne0 c = (
  (λ t. cc),
  (λ h.
      let z = solution-products (rows_of c.args.self.now) c.args.self.now c.args.p.now (get_or c.args.self.now c.loop-place.place []) h in
      absurd (c.if-product_with_image-ne0.true (ap (of_z w64) (c.product_with_image.ensures ∙ z)))),
)

pub returns : goal.returns
returns c = (
  (λ _. solution-from_products (rows_of c.args.self.now) c.args.self.now c.args.p.now c.places-place-end.ensures.matrix.shape c.requires.places
      (λ i l. c.loop-place.invariant i (omega (arith, l, c.loop-place-test.false, c.places-place-end.ensures.number)))),
  (λ _. refl),
)
