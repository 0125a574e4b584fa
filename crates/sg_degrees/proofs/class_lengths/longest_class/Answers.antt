use Rattle.std.proofs.Common.{ℕ, List, sym, subst}
use Rattle.sg_defs.specs.Membership.{IsFactorization}
use Rattle.sg_betti.specs.Components.{AreComponents}
use Rattle.sg_betti.proofs.ElementLemmas.{betti-positive}
use Rattle.sg_degrees.specs.Greatest.{IsGreatestOver}
use Rattle.sg_degrees.specs.Lengths.{AreLeastLengths, IsShortestAt}
use Rattle.sg_degrees.proofs.ClassLemmas.{longest-from_rows}
use Rattle.sg_degrees.proofs.class_lengths.longest_class.Goals as goal

pub longest_row-requires-clause-lengths : goal.longest_row-requires-clause-lengths
longest_row-requires-clause-lengths c = subst (λ (G : List ℕ). AreLeastLengths G c.args.least.now) (sym c.requires.same) c.requires.lengths

pub longest_row-requires-clause-components : goal.longest_row-requires-clause-components
longest_row-requires-clause-components c =
    subst (λ (G : List ℕ). AreComponents (IsFactorization G c.args.n) c.as_slice.result.now) (sym c.requires.same)
    (subst (AreComponents (IsFactorization c.args.t.now c.args.n)) (sym c.as_slice.ensures) c.in_ok-rows.ensures.components)

pub returns : goal.returns
returns c =
    let G = c.args.t.now in
    let n = c.args.n in
    let N = c.longest_row.result in
    let rows = subst (AreComponents (IsFactorization c.args.t.now c.args.n)) (sym c.as_slice.ensures) c.in_ok-rows.ensures.components in
    let h = subst (λ (H : List ℕ). IsGreatestOver (IsShortestAt (IsFactorization H n)) c.as_slice.result.now N) c.requires.same c.longest_row.ensures in
    longest-from_rows G n c.as_slice.result.now N (betti-positive G n c.requires.semigroup.positive c.requires.betti) rows c.requires.betti h
