use Rattle.std.proofs.Common.{◌≡◌, ◌<◌, ◌^◌, ℕ, List, get_or, refl, sym, subst, ◌∙◌, arith}
use Rattle.std.specs.Prelude.{All}
use Rattle.std.proofs.lemmas.Result.{IfOk-weaker}
use Rattle.sg_defs.specs.Listings.{Lists}
use Rattle.sg_defs.specs.Membership.{IsFactorization}
use Rattle.sg_nonunique.specs.Classes.{HasTwoClasses}
use Rattle.sg_betti.proofs.ElementLemmas.{elements-small, found-all, found-more, found-none}
use Rattle.sg_betti.proofs.SortLemmas.{lists-sorted}
use Rattle.sg_betti.proofs.elements.betti_elements.Goals as goal

pub loop-rest-init : goal.loop-rest-init
loop-rest-init c = found-none c.args.t.now c.apery-rest-items.result.now c.new-found.result.items c.new-found.ensures.items

pub add_sums-requires-clause-member : goal.add_sums-requires-clause-member
add_sums-requires-clause-member c =
    let i = c.loop-rest.rest-index in
    c.apery-rest-items.ensures.apery.member i (omega (arith, c.loop-rest-test.true, c.apery-rest-items.ensures.entries))

pub add_sums-requires-clause-small : goal.add_sums-requires-clause-small
add_sums-requires-clause-small c = λ j l. omega (arith, c.apery-rest-items.ensures.small c.loop-rest.rest-index c.loop-rest-test.true, c.generators.ensures.fit.small j l)

pub loop-rest-preserved : goal.loop-rest-preserved
loop-rest-preserved c =
    let t = c.apery-rest-items.result.now in
    let i = c.loop-rest.rest-index in
    found-more c.args.t.now t i (get_or t i 0) c.loop-rest.found.items c.add_sums.new.found.items refl c.loop-rest.invariant c.in_ok-add_sums.ensures

pub returns-clause-elements : goal.returns-clause-elements
returns-clause-elements c =
    let G = c.args.t.now in
    let t = c.apery-rest-items.result.now in
    let P : ℕ → Type 0 = λ n. HasTwoClasses (IsFactorization G n) in
    let exactly = found-all G t c.loop-rest.rest-index c.loop-rest.found.items c.generators.ensures.semigroup.positive c.apery-rest-items.ensures.apery c.loop-rest-test.false c.loop-rest.invariant in
    let found = lists-sorted P c.loop-rest.found.items c.sort_unstable.new.self.items c.dedup.new.self.items exactly c.sort_unstable.ensures.permutation c.sort_unstable.ensures.sorted c.dedup.ensures.filtered in
    IfOk-weaker c.from_slice.result (λ list. list ≡ c.deref.result.now) (Lists P) (λ list e. subst (Lists P) (sym (e ∙ c.deref.ensures.value)) found) c.from_slice.ensures

pub returns-clause-small : goal.returns-clause-small
returns-clause-small c =
    let G = c.args.t.now in
    let t = c.apery-rest-items.result.now in
    let P : ℕ → Type 0 = λ n. HasTwoClasses (IsFactorization G n) in
    let B = 2 ^ 63 in
    let Q : List ℕ → Type 0 = All (λ n. n < B) in
    let exactly = found-all G t c.loop-rest.rest-index c.loop-rest.found.items c.generators.ensures.semigroup.positive c.apery-rest-items.ensures.apery c.loop-rest-test.false c.loop-rest.invariant in
    let found = lists-sorted P c.loop-rest.found.items c.sort_unstable.new.self.items c.dedup.new.self.items exactly c.sort_unstable.ensures.permutation c.sort_unstable.ensures.sorted c.dedup.ensures.filtered in
    let small = elements-small G t c.dedup.new.self.items B c.generators.ensures.semigroup.positive c.apery-rest-items.ensures.apery
    (λ i j k l. omega (arith, c.apery-rest-items.ensures.small i k, c.generators.ensures.fit.small j l)) found in
    IfOk-weaker c.from_slice.result (λ list. list ≡ c.deref.result.now) Q (λ list e. subst Q (sym (e ∙ c.deref.ensures.value)) small) c.from_slice.ensures
