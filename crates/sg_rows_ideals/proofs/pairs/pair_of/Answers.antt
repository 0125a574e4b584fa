use Rattle.std.proofs.Common.{◌≡◌, sym, subst}
use Rattle.std.specs.Prelude.{◌≢◌}
use Rattle.sg_defs.specs.Ideals.{IsInDifference, IsInSum}
use Rattle.sg_ideal.specs.Faults.{IsPairRefused}
use Rattle.sg_ideal.specs.Value.{IsIn, IsInBoth}
use Rattle.sg_rows.specs.Made.{Tells}
use Rattle.sg_rows_ideals.specs.Rows.{pair_row}
use Rattle.sg_rows_ideals.proofs.Served.{pair_serves}
use Rattle.sg_rows_ideals.proofs.Serving.{settles}
use Rattle.sg_rows_ideals.proofs.pairs.pair_of.Goals as goal

pub returns-in-Difference : goal.returns-in-Difference
returns-in-Difference c =
    let I = c.args.one.now in
    let J = c.args.other.now in
    let P = IsInDifference (IsIn I) (IsIn J) in
    let made = c.subtract.result in
    let r = c.settled.result in
    subst (λ p. Tells r (pair_row p I J)) (sym c.in-Difference.is)
    (settles I.ambient P ⊥ (I.ambient ≢ J.ambient) (I.ambient ≡ J.ambient) (IsPairRefused I J P) (pair_serves I J P) made r c.settled.ensures c.subtract.ensures.made c.subtract.ensures.paired c.subtract.ensures.refused)

pub returns-in-Intersection : goal.returns-in-Intersection
returns-in-Intersection c =
    let I = c.args.one.now in
    let J = c.args.other.now in
    let P = IsInBoth (IsIn I) (IsIn J) in
    let made = c.intersect.result in
    let r = c.settled-in-Intersection.result in
    subst (λ p. Tells r (pair_row p I J)) (sym c.in-Intersection.is)
    (settles I.ambient P ⊥ (I.ambient ≢ J.ambient) (I.ambient ≡ J.ambient) (IsPairRefused I J P) (pair_serves I J P) made r c.settled-in-Intersection.ensures c.intersect.ensures.made c.intersect.ensures.paired c.intersect.ensures.refused)

pub returns-in-Sum : goal.returns-in-Sum
returns-in-Sum c =
    let I = c.args.one.now in
    let J = c.args.other.now in
    let P = IsInSum (IsIn I) (IsIn J) in
    let made = c.sum.result in
    let r = c.settled-in-Sum.result in
    subst (λ p. Tells r (pair_row p I J)) (sym c.in-Sum.is)
    (settles I.ambient P ⊥ (I.ambient ≢ J.ambient) (I.ambient ≡ J.ambient) (IsPairRefused I J P) (pair_serves I J P) made r c.settled-in-Sum.ensures c.sum.ensures.made c.sum.ensures.paired c.sum.ensures.refused)
