use Rattle.sg_defs.specs.Listings.{Lists}
use Rattle.sg_nonunique.specs.Factorizations.{IsIntegerFactorization, IsLengthIn}
use Rattle.sg_rows.proofs.Signed.{of_bits_right}
use Rattle.sg_rows_factorizations.proofs.Bounds.{lengths-small}
use Rattle.sg_rows_factorizations.proofs.Telling.{low, tells_measures}
use Rattle.sg_rows_factorizations.proofs.measured.lengths_within.Goals as goal

pub returns : goal.returns
returns c =
    let G = c.args.table.now in
    let x = c.args.element in
    let fits = c.ranges.element in
    let ns = c.in_ok-lengths.field-0 in
    let listed = of_bits_right (λ y. Lists (IsLengthIn (IsIntegerFactorization G y)) ns) x fits c.in_ok-lengths.ensures in
    tells_measures G x (c.narrow.ensures.0 c.if-not-narrow.false) (Lists (IsLengthIn (IsIntegerFactorization G x))) ns (low x fits c.if-element.false) (lengths-small G x c.requires fits ns listed) listed
