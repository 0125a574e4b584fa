use Rattle.std.proofs.Common.{◌≡◌, ◌+◌, ◌-◌, get_or, ap, sym, subst, ◌∙◌, arith}
use Rattle.std.proofs.lemmas.Result.{IfOk-weaker}
use Rattle.sg_defs.specs.Membership.{IsMember}
use Rattle.sg_nonunique.specs.Places.{raise}
use Rattle.sg_laws_families.proofs.PlaceClasses.{number-vertex}
use Rattle.sg_betti.specs.Raised.{IsGreatestFrom}
use Rattle.sg_betti.proofs.RelationLemmas.{greatest_from-raised, place-below_value}
use Rattle.sg_betti.proofs.SearchLemmas.{vertex-inside}
use Rattle.sg_betti.proofs.canonical.greatest_from.Goals as goal

pub overflow_sub-rest : goal.overflow_sub-rest
overflow_sub-rest c =
    let G = c.args.t.now in
    let place = c.args.place in
    let inside = vertex-inside G c.args.n place c.requires.place in
    let p = (number-vertex G c.args.n place inside).0 c.requires.place in
    let same = ap (λ l. get_or l place 0) (c.as_slice-generators.ensures ∙ c.generators.ensures.same) in
    omega (arith, p.1, same)

pub raised-requires-clause-place : goal.raised-requires-clause-place
raised-requires-clause-place c =
    let inside = vertex-inside c.args.t.now c.args.n c.args.place c.requires.place in
    let g = rw c.in-Some.is at c.in_ok-vector.ensures in
    omega (arith, g.member.places, inside)

pub raised-requires-clause-small : goal.raised-requires-clause-small
raised-requires-clause-small c =
    let G = c.args.t.now in
    let place = c.args.place in
    let inside = vertex-inside G c.args.n place c.requires.place in
    let g = rw c.in-Some.is at c.in_ok-vector.ensures in
    omega (arith, g.member.value, place-below_value G c.in-Some.vector place c.generators.ensures.semigroup.positive inside, c.requires.small)

pub unreachable-requires : goal.unreachable-requires
unreachable-requires c =
    let G = c.args.t.now in
    let place = c.args.place in
    let inside = vertex-inside G c.args.n place c.requires.place in
    let p = (number-vertex G c.args.n place inside).0 c.requires.place in
    let same = ap (λ l. get_or l place 0) (c.as_slice-generators.ensures ∙ c.generators.ensures.same) in
    let none = rw c.in-None.is at c.in_ok-vector.ensures in
    let e : p.0 ≡ c.args.n - get_or c.as_slice-generators.result.now place 0 = omega (arith, p.1, same) in
    none (subst (IsMember G) e p.2)

pub returns : goal.returns
returns c =
    let G = c.args.t.now in
    let n = c.args.n in
    let place = c.args.place in
    let rest = n - get_or c.as_slice-generators.result.now place 0 in
    let inside = vertex-inside G n place c.requires.place in
    let p = (number-vertex G n place inside).0 c.requires.place in
    let same = ap (λ l. get_or l place 0) (c.as_slice-generators.ensures ∙ c.generators.ensures.same) in
    let split : n ≡ rest + get_or G place 0 = omega (arith, p.1, same) in
    let g = rw c.in-Some.is at c.in_ok-vector.ensures in
    IfOk-weaker c.raised.result (λ high. high ≡ raise c.in-Some.vector place) (IsGreatestFrom G n place)
    (λ high e. subst (IsGreatestFrom G n place) (sym e) (greatest_from-raised G n rest place c.in-Some.vector inside split g)) c.raised.ensures
