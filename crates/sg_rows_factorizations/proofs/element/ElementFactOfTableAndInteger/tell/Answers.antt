use Rattle.std.proofs.Common.{sym, subst}
use Rattle.sg_rows.specs.Made.{Tells}
use Rattle.sg_rows.proofs.Signed.{of_bits_right}
use Rattle.sg_rows_factorizations.specs.Elements.{catenary_row, element_row, factorizations_row, omega_row}
use Rattle.sg_rows_factorizations.proofs.element.ElementFactOfTableAndInteger.tell.Goals as goal

pub returns-in-CatenaryDegree : goal.returns-in-CatenaryDegree
returns-in-CatenaryDegree c =
    let G = c.args.table.now in
    let x = c.args.integer in
    let r = c.catenary_within.result in
    subst (λ f. Tells r (element_row f G x)) (sym c.in-CatenaryDegree.is) (of_bits_right (λ y. Tells r (catenary_row G y)) x c.ranges.integer c.catenary_within.ensures)

pub returns-in-Factorizations : goal.returns-in-Factorizations
returns-in-Factorizations c =
    let G = c.args.table.now in
    let x = c.args.integer in
    let r = c.factorizations_within.result in
    subst (λ f. Tells r (element_row f G x)) (sym c.in-Factorizations.is) (of_bits_right (λ y. Tells r (factorizations_row G y)) x c.ranges.integer c.factorizations_within.ensures)

pub returns-in-OmegaPrimality : goal.returns-in-OmegaPrimality
returns-in-OmegaPrimality c =
    let G = c.args.table.now in
    let x = c.args.integer in
    let r = c.omega_within.result in
    subst (λ f. Tells r (element_row f G x)) (sym c.in-OmegaPrimality.is) (of_bits_right (λ y. Tells r (omega_row G y)) x c.ranges.integer c.omega_within.ensures)
