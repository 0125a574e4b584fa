use Rattle.std.proofs.Common.{◌≡◌, ℕ, [], ◌∷◌, ◌++◌, sym, ap, subst, ◌∙◌}
use Rattle.std.specs.Prelude.{◌↔◌, Contains, nat_eq}
use Rattle.std.proofs.lemmas.List.Filters.{dedup_is}
use Rattle.std.proofs.lemmas.List.Kept.{Contains-dedup_nat, Contains-from_dedup}
use Rattle.std.proofs.lemmas.Result.{IfOk-weaker}
use Rattle.sg_nonunique.specs.Presentations.{Relation}
use Rattle.sg_degrees.specs.Values.{IsValueOf}
use Rattle.sg_degrees.proofs.ValueLemmas.{values-all, values-more, values-none}
use Rattle.sg_degrees.proofs.betti.values_of.Goals as goal

pub loop-relation-init : goal.loop-relation-init
loop-relation-init c = values-none c.as_slice-relation-items.result.now c.new-values.result.items c.new-values.ensures.items

pub loop-relation-preserved : goal.loop-relation-preserved
loop-relation-preserved c =
    let l = c.loop-relation.values.items in
    let value : c.relation.inside.value ≡ c.relation-item.result.value = ap (λ (s : Relation ℕ). s.value) c.relation.view_is in
    values-more c.as_slice-relation-items.result.now c.loop-relation.relation-index c.relation-item.result l c.push.new.self.items c.loop-relation-test.true
    (sym c.relation-item.is) c.loop-relation.invariant (c.in_ok-push.ensures.items ∙ ap (λ v. l ++ v ∷ []) value)

pub returns : goal.returns
returns c =
    let P = c.as_slice-relation-items.result.now in
    let p = c.args.p.now in
    let i = c.loop-relation.relation-index in
    let l = c.loop-relation.values.items in
    let now = c.dedup.new.self.items in
    let same : P ≡ p = c.as_slice-relation-items.ensures in
    let is = dedup_is nat_eq l now c.dedup.ensures.filtered in
    let far = c.loop-relation-test.false in
    let found : (n : ℕ) → Contains now n ↔ IsValueOf p n = λ n. (
      (λ h. subst (λ q. IsValueOf q n) same ((values-all P i n far).0 ((c.loop-relation.invariant n).0 (Contains-from_dedup nat_eq l n (subst (λ k. Contains k n) is h))))),
      (λ v. subst (λ k. Contains k n) (sym is) (Contains-dedup_nat l n ((c.loop-relation.invariant n).1 ((values-all P i n far).1 (subst (λ q. IsValueOf q n) (sym same) v))))),
    ) in
    IfOk-weaker c.from_slice.result (λ list. list ≡ c.deref.result.now) (λ list. (n : ℕ) → Contains list n ↔ IsValueOf p n)
    (λ list e. subst (λ k. (n : ℕ) → Contains k n ↔ IsValueOf p n) (sym (e ∙ c.deref.ensures.value)) found) c.from_slice.ensures
