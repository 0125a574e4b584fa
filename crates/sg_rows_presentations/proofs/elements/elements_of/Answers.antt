use Rattle.std.proofs.Common.{◌≡◌, ℕ, ◌+◌, [], ◌∷◌, ◌++◌, map, take, sym, ap, subst, ◌∙◌}
use Rattle.std.specs.Prelude.{◌↔◌, Contains}
use Rattle.std.proofs.lemmas.List.{take_all, take_more, map-append}
use Rattle.std.proofs.lemmas.Result.{IfOk-weaker}
use Rattle.sg_defs.specs.Listings.{Lists}
use Rattle.sg_betti.proofs.SortLemmas.{lists-sorted}
use Rattle.sg_degrees.specs.Values.{IsValueOf}
use Rattle.sg_rows_presentations.proofs.Reading.{value_of, values-contained}
use Rattle.sg_rows_presentations.proofs.elements.elements_of.Goals as goal

pub loop-relation-preserved : goal.loop-relation-preserved
loop-relation-preserved c =
    let P = c.as_slice-relation-items.result.now in
    let i = c.loop-relation.relation-index in
    let l = c.loop-relation.values.items in
    let r = c.relation-item.result in
    let value : c.relation.inside.value ≡ value_of r = ap value_of c.relation.view_is in
    let more : map value_of (take (i + 1) P) ≡ map value_of (take i P) ++ value_of r ∷ [] = ap (map value_of) (take_more P i r c.loop-relation-test.true) ∙ (ap (λ s. map value_of (take i P ++ s ∷ [])) (sym c.relation-item.is) ∙ map-append value_of (take i P) (r ∷ [])) in
    c.in_ok-push.ensures.items ∙ (ap (λ v. l ++ v ∷ []) value ∙ (ap (λ k. k ++ value_of r ∷ []) c.loop-relation.invariant ∙ sym more))

pub returns : goal.returns
returns c =
    let P = c.as_slice-relation-items.result.now in
    let p = c.args.relations.now in
    let same : P ≡ p = c.as_slice-relation-items.ensures in
    let l = c.loop-relation.values.items in
    let all : l ≡ map value_of p = c.loop-relation.invariant ∙ (ap (map value_of) (take_all c.loop-relation.relation-index P c.loop-relation-test.false) ∙ ap (map value_of) same) in
    let Q = IsValueOf p in
    let found = lists-sorted Q l c.sort_unstable.new.self.items c.dedup.new.self.items (subst (λ k. (n : ℕ) → Contains k n ↔ Q n) (sym all) (values-contained p)) c.sort_unstable.ensures.permutation c.sort_unstable.ensures.sorted c.dedup.ensures.filtered in
    IfOk-weaker c.from_slice.result (λ list. list ≡ c.deref.result.now) (Lists Q) (λ list e. subst (Lists Q) (sym (e ∙ c.deref.ensures.value)) found) c.from_slice.ensures
