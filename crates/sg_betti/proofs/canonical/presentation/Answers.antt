use Rattle.std.proofs.Common.{◌≡◌, ◌<◌, ◌^◌, get_or, length, refl, sym, subst, arith}
use Rattle.std.specs.Prelude.{All}
use Rattle.std.proofs.lemmas.List.Elements.{Contains-get_or}
use Rattle.sg_defs.specs.Listings.{Lists}
use Rattle.sg_defs.specs.Membership.{IsFactorization}
use Rattle.sg_nonunique.specs.Classes.{HasTwoClasses}
use Rattle.sg_laws_families.proofs.CanonicalLemmas.{canonical-none_spare, canonical-presents, canonical-relations}
use Rattle.sg_laws_families.proofs.Families.{numbers-family}
use Rattle.sg_betti.proofs.PresentationLemmas.{ArePresented, presented-all, presented-more, presented-none}
use Rattle.sg_betti.proofs.canonical.presentation.Goals as goal

pub loop-n-init : goal.loop-n-init
loop-n-init c = subst (ArePresented (IsFactorization c.args.t.now) c.as_slice-n-items.result.now 0) (sym c.new-list.ensures) (presented-none (IsFactorization c.args.t.now) c.as_slice-n-items.result.now)

pub add_relations-requires-clause-small : goal.add_relations-requires-clause-small
add_relations-requires-clause-small c =
    let small = subst (All (λ n. n < 2 ^ 63)) (sym c.as_slice-n-items.ensures) c.in_ok-elements.ensures.small in
    small c.loop-n.n-index 0 c.loop-n-test.true

pub add_relations-requires-clause-betti : goal.add_relations-requires-clause-betti
add_relations-requires-clause-betti c =
    let items = c.as_slice-n-items.result.now in
    let i = c.loop-n.n-index in
    let lists = subst (Lists (λ n. HasTwoClasses (IsFactorization c.args.t.now n))) (sym c.as_slice-n-items.ensures) c.in_ok-elements.ensures.elements in
    (lists.exactly (get_or items i 0)).0 (Contains-get_or items i 0 c.loop-n-test.true)

pub loop-n-preserved : goal.loop-n-preserved
loop-n-preserved c =
    let items = c.as_slice-n-items.result.now in
    let i = c.loop-n.n-index in
    let lists = subst (Lists (λ n. HasTwoClasses (IsFactorization c.args.t.now n))) (sym c.as_slice-n-items.ensures) c.in_ok-elements.ensures.elements in
    presented-more (IsFactorization c.args.t.now) items i (get_or items i 0) c.loop-n.list c.add_relations.new.list lists c.loop-n-test.true refl c.loop-n.invariant c.in_ok-add_relations.ensures

pub returns-clause-canonical : goal.returns-clause-canonical
returns-clause-canonical c =
    let G = c.args.t.now in
    let items = c.as_slice-n-items.result.now in
    let lists = subst (Lists (λ n. HasTwoClasses (IsFactorization G n))) (sym c.as_slice-n-items.ensures) c.in_ok-elements.ensures.elements in
    let all : length items ≡ c.loop-n.n-index = omega (arith, c.loop-n-test.false, c.loop-n.auto.n-index-end) in
    presented-all (IsFactorization G) items c.loop-n.n-index c.loop-n.list lists all c.loop-n.invariant

pub returns-clause-relations : goal.returns-clause-relations
returns-clause-relations c =
    let G = c.args.t.now in
    let items = c.as_slice-n-items.result.now in
    let lists = subst (Lists (λ n. HasTwoClasses (IsFactorization G n))) (sym c.as_slice-n-items.ensures) c.in_ok-elements.ensures.elements in
    let all : length items ≡ c.loop-n.n-index = omega (arith, c.loop-n-test.false, c.loop-n.auto.n-index-end) in
    canonical-relations (IsFactorization G) (λ n. n) (length G) (numbers-family G c.in_ok-elements.ensures.semigroup.positive) (◌<◌) c.loop-n.list (presented-all (IsFactorization G) items c.loop-n.n-index c.loop-n.list lists all c.loop-n.invariant)

pub returns-clause-presents : goal.returns-clause-presents
returns-clause-presents c =
    let G = c.args.t.now in
    let items = c.as_slice-n-items.result.now in
    let lists = subst (Lists (λ n. HasTwoClasses (IsFactorization G n))) (sym c.as_slice-n-items.ensures) c.in_ok-elements.ensures.elements in
    let all : length items ≡ c.loop-n.n-index = omega (arith, c.loop-n-test.false, c.loop-n.auto.n-index-end) in
    canonical-presents (IsFactorization G) (λ n. n) (length G) (numbers-family G c.in_ok-elements.ensures.semigroup.positive) (◌<◌) c.loop-n.list (presented-all (IsFactorization G) items c.loop-n.n-index c.loop-n.list lists all c.loop-n.invariant)

pub returns-clause-none_spare : goal.returns-clause-none_spare
returns-clause-none_spare c =
    let G = c.args.t.now in
    let items = c.as_slice-n-items.result.now in
    let lists = subst (Lists (λ n. HasTwoClasses (IsFactorization G n))) (sym c.as_slice-n-items.ensures) c.in_ok-elements.ensures.elements in
    let all : length items ≡ c.loop-n.n-index = omega (arith, c.loop-n-test.false, c.loop-n.auto.n-index-end) in
    canonical-none_spare (IsFactorization G) (λ n. n) (length G) (numbers-family G c.in_ok-elements.ensures.semigroup.positive) (◌<◌) c.loop-n.list (presented-all (IsFactorization G) items c.loop-n.n-index c.loop-n.list lists all c.loop-n.invariant) (λ n l. omega arith)
