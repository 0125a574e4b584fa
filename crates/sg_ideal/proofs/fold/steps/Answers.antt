use Rattle.std.proofs.Common.{◌≡◌, ℕ, ◌+◌, ◌-◌, ◌∙◌, List, get_or, sym, subst, ℤ, pos, to_z, of_z, w64, arith}
use Rattle.sg_ideal.specs.Classes.{IsSpread}
use Rattle.sg_ideal.specs.Value.{IsLeast}
use Rattle.sg_lawful.specs.Generators.{IsSmall}
use Rattle.sg_ideal.proofs.FoldLemmas.{IsFold, fold-one, fold-more, fold-stays}
use Rattle.sg_ideal.proofs.PairLemmas.{passed-least, passed-spread}
use Rattle.sg_ideal.proofs.ReachLemmas.{same-slices}
use Rattle.sg_ideal.proofs.fold.steps.Goals as goal

-- what was spread, from the first generator on
spread_of : (s t next : List ℕ) (I L : List ℤ) (l : ℤ) → s ≡ t → L ≡ I → IsSmall l → l ≡ get_or I 0 (pos 0) → IsSpread s (to_z w64 (of_z w64 l)) L next → IsSpread t (get_or I 0 (pos 0)) I next
spread_of s t next I L l d e small first h =
    subst (λ t. IsSpread t (get_or I 0 (pos 0)) I next) d (subst (λ b. IsSpread s b I next) first (passed-spread s next I L l e small h))

pub loop-folds-init : goal.loop-folds-init
loop-folds-init c = fold-one c.args.a.now c.entries.result.now c.in_ok-list.list.items c.entries.ensures c.in_ok-list.ensures.items

pub spread-requires-clause-least : goal.spread-requires-clause-least
spread-requires-clause-least c = (passed-least c.args.a.now.generators c.generators.result.now c.least.result c.generators.ensures.same c.least.ensures.small c.least.ensures.least).below

pub loop-folds-preserved : goal.loop-folds-preserved
loop-folds-preserved c =
    let J = c.args.a.now in
    let list = c.loop-folds.list.items in
    let next = c.in_ok-next.next.items in
    let s = spread_of c.deref.result.now list next J.generators c.generators.result.now c.least.result c.deref.ensures.value c.generators.ensures.same c.least.ensures.small c.least.ensures.first c.in_ok-next.ensures in
    let least = subst (IsLeast J.generators) c.least.ensures.first c.least.ensures.least in
    fold-more J c.loop-folds._folds list next least s c.loop-folds.invariant

pub returns-then-eq-clause-same : goal.returns-then-eq-clause-same
returns-then-eq-clause-same c =
    let J = c.args.a.now in
    let list = c.loop-folds.list.items in
    let next = c.in_ok-next.next.items in
    let s = spread_of c.deref.result.now list next J.generators c.generators.result.now c.least.result c.deref.ensures.value c.generators.ensures.same c.least.ensures.small c.least.ensures.first c.in_ok-next.ensures in
    let least = subst (IsLeast J.generators) c.least.ensures.first c.least.ensures.least in
    let same : next ≡ list = sym c.as_slice.ensures.value ∙ same-slices c.as_slice.result.now c.as_slice-in-loop-folds.result.now c.if-eq.ensures ∙ c.as_slice-in-loop-folds.ensures.value in
    let j = c.loop-folds._folds in
    let t = c.loop-folds-test.true in
    let e : j + (c.args.k - j) ≡ c.args.k = omega arith in
    (subst (λ n. IsFold J n list) e (fold-stays J (c.args.k - j) j list least (subst (IsSpread list (get_or J.generators 0 (pos 0)) J.generators) same s) c.loop-folds.invariant)).same

pub returns-clause-same : goal.returns-clause-same
returns-clause-same c =
    let J = c.args.a.now in
    let list = c.loop-folds.list.items in
    let t = c.loop-folds-test.false in
    let positive = c.requires in
    let end = c.loop-folds.auto._folds-end (omega arith) in
    let e : c.loop-folds._folds ≡ c.args.k = omega (arith, end) in
    (subst (λ n. IsFold J n list) e c.loop-folds.invariant).same
