use Rattle.std.proofs.Common.{sym, subst}
use Rattle.sg_defs.specs.Membership.{IsFactorization}
use Rattle.sg_laws_families.specs.PlaceGraph.{IsVertex}
use Rattle.sg_betti.specs.Components.{AreComponents}
use Rattle.sg_betti.specs.Raised.{IsGreatestFrom}
use Rattle.sg_betti.proofs.ElementLemmas.{betti-positive}
use Rattle.sg_betti.proofs.RelationLemmas.{head-vertex, some-row}
use Rattle.sg_betti.proofs.canonical.add_relations.Goals as goal

pub head-root-requires-clause-inside : goal.head-root-requires-clause-inside
head-root-requires-clause-inside c =
    let G = c.args.t.now in
    let n = c.args.n in
    let rows = c.as_slice-rows.result.now in
    let positive = c.requires.semigroup.positive in
    let above = betti-positive G n positive c.requires.betti in
    let C = subst (AreComponents (IsFactorization G n)) (sym c.as_slice-rows.ensures) c.in_ok-found.ensures.components in
    let some = some-row G n positive above rows C c.requires.betti.0 c.requires.betti.2 in
    some

pub head-root-requires-clause-not_empty : goal.head-root-requires-clause-not_empty
head-root-requires-clause-not_empty c =
    let C = subst (AreComponents (IsFactorization c.args.t.now c.args.n)) (sym c.as_slice-rows.ensures) c.in_ok-found.ensures.components in
    C.not_empty

pub greatest_from-requires-clause-place : goal.greatest_from-requires-clause-place
greatest_from-requires-clause-place c =
    let G = c.args.t.now in
    let n = c.args.n in
    let rows = c.as_slice-rows.result.now in
    let positive = c.requires.semigroup.positive in
    let above = betti-positive G n positive c.requires.betti in
    let C = subst (AreComponents (IsFactorization G n)) (sym c.as_slice-rows.ensures) c.in_ok-found.ensures.components in
    let some = some-row G n positive above rows C c.requires.betti.0 c.requires.betti.2 in
    subst (IsVertex (IsFactorization G n)) (sym c.head-root.ensures) (head-vertex G n positive above rows C 0 some)

pub add_pairs-requires-clause-components : goal.add_pairs-requires-clause-components
add_pairs-requires-clause-components c = subst (AreComponents (IsFactorization c.args.t.now c.args.n)) (sym c.as_slice-rows.ensures) c.in_ok-found.ensures.components

pub add_pairs-requires-clause-root : goal.add_pairs-requires-clause-root
add_pairs-requires-clause-root c = subst (λ i. IsGreatestFrom c.args.t.now c.args.n i c.in_ok-left.left) c.head-root.ensures c.in_ok-left.ensures
