use Rattle.std.proofs.Common.{◌≡◌, length, sym, ap, subst, ◌∙◌, inl, inr, arith}
use Rattle.std.proofs.lemmas.Bool.{cases_lt, false≢true}
use Rattle.sg_defs.specs.Membership.{IsFactorization}
use Rattle.sg_laws_families.specs.PlaceGraph.{IsVertex}
use Rattle.sg_betti.proofs.ElementLemmas.{free-taken}
use Rattle.sg_betti.proofs.elements.end_place.Goals as goal

pub loop-place-init : goal.loop-place-init
loop-place-init c = λ i p l. absurd (omega (arith, p, l))

pub loop-place-preserved : goal.loop-place-preserved
loop-place-preserved c =
    let G = c.args.t.now in
    let rest = c.args.rest in
    let place = c.loop-place.place in
    λ i p l. elim (cases_lt i place) [
      | inl less ↦ c.loop-place.invariant i p less
      | inr more ↦
          let e : place ≡ i = omega (arith, more, l) in
          subst (λ k. ¬ IsVertex (IsFactorization G rest) k) e (λ v. false≢true (sym c.if-is_vertex.false ∙ c.is_vertex.ensures.1 v))
    ]

pub returns-then-is_vertex-clause-exactly : goal.returns-then-is_vertex-clause-exactly
returns-then-is_vertex-clause-exactly c =
    λ j p l. free-taken c.args.t.now c.args.rest c.loop-place.place j (omega (arith, c.loop-place.auto.place)) c.loop-place.invariant (c.is_vertex.ensures.0 c.if-is_vertex.true)

pub returns-clause-exactly : goal.returns-clause-exactly
returns-clause-exactly c =
    let G = c.args.t.now in
    λ j p l. (
      (λ h. λ i q k. c.loop-place.invariant i q (omega (arith, k, l, c.loop-place-test.false, ap length c.generators.ensures.same))),
      (λ h. omega (arith, l, c.len-places.ensures, ap length c.generators.ensures.same)),
    )
