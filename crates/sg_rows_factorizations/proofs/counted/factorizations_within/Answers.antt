use Rattle.std.proofs.Common.{Err, sym, subst}
use Rattle.sg_nonunique.specs.Counts.{Exceeds}
use Rattle.sg_nonunique.specs.Factorizations.{AreFactorizations, IsIntegerFactorization}
use Rattle.sg_factor.specs.Faults.{IsRefused}
use Rattle.sg_factor.specs.declared.limits.TheConstants.{FACTORIZATION_LIMIT}
use Rattle.sg_rows.specs.Made.{Tells}
use Rattle.sg_rows.specs.Values.{vectors_with}
use Rattle.sg_rows.proofs.Signed.{of_bits_right}
use Rattle.sg_rows_factorizations.specs.Elements.{factorizations_row}
use Rattle.sg_rows_factorizations.proofs.Bounds.{vectors-small}
use Rattle.sg_rows_factorizations.proofs.Telling.{counted_refused, tells_vectors}
use Rattle.sg_rows_factorizations.proofs.counted.factorizations_within.Goals as goal

pub returns-in-Ok : goal.returns-in-Ok
returns-in-Ok c =
    let G = c.args.table.now in
    let x = c.args.element in
    let fits = c.ranges.element in
    let vs = c.in-Ok.vectors in
    let listed = of_bits_right (λ y. AreFactorizations G y vs) x fits c.in-Ok.ensures.listed in
    let few = of_bits_right (λ y. Exceeds (IsIntegerFactorization G y) FACTORIZATION_LIMIT → ⊥) x fits c.in-Ok.ensures.few in
    tells_vectors G x (c.narrow.ensures.0 c.if-not-narrow.false) FACTORIZATION_LIMIT few (AreFactorizations G x) vs (vectors-small G x c.requires fits vs listed) listed

pub returns-in-Err : goal.returns-in-Err
returns-in-Err c =
    let G = c.args.table.now in
    let x = c.args.element in
    let e = c.in-Err.fault in
    let many = of_bits_right (λ y. IsRefused (Exceeds (IsIntegerFactorization G y) FACTORIZATION_LIMIT) e) x c.ranges.element c.in-Err.ensures.many in
    subst (λ f. Tells (Err f) (factorizations_row G x)) (sym c.refusal.ensures)
    (counted_refused G x (c.narrow.ensures.0 c.if-not-narrow.false) FACTORIZATION_LIMIT (vectors_with (AreFactorizations G x)) e many)
