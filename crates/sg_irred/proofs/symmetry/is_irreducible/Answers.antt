use Rattle.std.proofs.Common.{◌≡◌, ◌+◌, ◌*◌, inl, inr, eq-eqb, eqb-true, arith}
use Rattle.sg_irred.proofs.TestLemmas.{irreducible-by_conductor}
use Rattle.sg_irred.proofs.symmetry.is_irreducible.Goals as goal

pub returns-then-double-least : goal.returns-then-double-least
returns-then-double-least c =
    let g = c.genus-double.result in
    let least = c.conductor-least.result in
    let same : 2 * g ≡ least = omega arith in
    let t = irreducible-by_conductor c.args.table.now least g c.conductor-least.ensures.conductor c.genus-double.ensures.decided c.genus-double.ensures.genus in
    ((λ e. t.0 (inl same)), (λ i. eq-eqb (2 * g) least same))

pub returns-else-double-least : goal.returns-else-double-least
returns-else-double-least c =
    let g = c.genus-double.result in
    let least = c.conductor-least.result in
    let t = irreducible-by_conductor c.args.table.now least g c.conductor-least.ensures.conductor c.genus-double.ensures.decided c.genus-double.ensures.genus in (
      (λ e. t.0 (inr (eqb-true (2 * g) (least + 1) e))),
      (λ i. elim (t.1 i) [ inl same ↦ absurd (omega (arith, same)) | inr next ↦ eq-eqb (2 * g) (least + 1) next ]),
    )
