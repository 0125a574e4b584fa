use Rattle.std.proofs.Common.{Err, sym, subst}
use Rattle.sg_nonunique.specs.Catenary.{IsCatenaryOf}
use Rattle.sg_nonunique.specs.Counts.{Exceeds}
use Rattle.sg_nonunique.specs.Factorizations.{IsIntegerFactorization}
use Rattle.sg_factor.specs.Faults.{IsRefused}
use Rattle.sg_factor.specs.declared.limits.TheConstants.{CATENARY_LIMIT}
use Rattle.sg_rows.specs.Made.{Tells}
use Rattle.sg_rows.specs.Values.{a_natural}
use Rattle.sg_rows.proofs.Signed.{of_bits_right}
use Rattle.sg_rows_factorizations.specs.Elements.{catenary_row}
use Rattle.sg_rows_factorizations.proofs.Bounds.{catenary-small}
use Rattle.sg_rows_factorizations.proofs.Telling.{counted_refused, tells_degree}
use Rattle.sg_rows_factorizations.proofs.counted.catenary_within.Goals as goal

pub returns-in-Ok : goal.returns-in-Ok
returns-in-Ok c =
    let G = c.args.table.now in
    let x = c.args.element in
    let fits = c.ranges.element in
    let n = c.in-Ok.degree in
    let degree = of_bits_right (λ y. IsCatenaryOf (IsIntegerFactorization G y) n) x fits c.in-Ok.ensures.catenary in
    let few = of_bits_right (λ y. Exceeds (IsIntegerFactorization G y) CATENARY_LIMIT → ⊥) x fits c.in-Ok.ensures.few in
    tells_degree G x (c.narrow.ensures.0 c.if-not-narrow.false) CATENARY_LIMIT few (IsCatenaryOf (IsIntegerFactorization G x)) n (catenary-small G x c.requires fits n degree) degree

pub returns-in-Err : goal.returns-in-Err
returns-in-Err c =
    let G = c.args.table.now in
    let x = c.args.element in
    let e = c.in-Err.fault in
    let many = of_bits_right (λ y. IsRefused (Exceeds (IsIntegerFactorization G y) CATENARY_LIMIT) e) x c.ranges.element c.in-Err.ensures.many in
    subst (λ f. Tells (Err f) (catenary_row G x)) (sym c.refusal.ensures)
    (counted_refused G x (c.narrow.ensures.0 c.if-not-narrow.false) CATENARY_LIMIT (a_natural (IsCatenaryOf (IsIntegerFactorization G x))) e many)
