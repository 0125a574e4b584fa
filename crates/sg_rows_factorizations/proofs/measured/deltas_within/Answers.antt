use Rattle.sg_defs.specs.Listings.{Lists}
use Rattle.sg_nonunique.specs.Deltas.{IsDelta}
use Rattle.sg_nonunique.specs.Factorizations.{IsIntegerFactorization, IsLengthIn}
use Rattle.sg_rows.proofs.Signed.{of_bits_right}
use Rattle.sg_rows_factorizations.proofs.Bounds.{deltas-small}
use Rattle.sg_rows_factorizations.proofs.Telling.{deltas-listed, low, tells_measures}
use Rattle.sg_rows_factorizations.proofs.measured.deltas_within.Goals as goal

pub returns : goal.returns
returns c =
    let G = c.args.table.now in
    let x = c.args.element in
    let fits = c.ranges.element in
    let lengths = c.in_ok-lengths.lengths in
    let ns = c.in_ok-delta_of.field-0 in
    let all = of_bits_right (λ y. Lists (IsLengthIn (IsIntegerFactorization G y)) lengths) x fits c.in_ok-lengths.ensures in
    let listed = deltas-listed (IsIntegerFactorization G x) lengths ns all c.in_ok-delta_of.ensures in
    tells_measures G x (c.narrow.ensures.0 c.if-not-narrow.false) (Lists (IsDelta (IsIntegerFactorization G x))) ns (low x fits c.if-element.false) (deltas-small G x c.requires fits ns listed) listed
