use Rattle.std.proofs.Common.{◌≡◌, ℕ, ◌+◌, ◌-◌, ◌*◌, ◌≤◌, ◌⊎◌, ◌↔◌, ◌++◌, List, length, take, drop, sym, ap, subst, ◌∙◌, refl, arith}
use Rattle.sg_classes.specs.Classes.{IsAboveEntry}
use Rattle.sg_classes.proofs.LoweredLemmas.{writes-back}
use Rattle.sg_ideal.specs.Classes.{AreClasses, IsReach}
use Rattle.sg_ideal.proofs.ReachLemmas.{reach-more, reach-stays, same-slices}
use Rattle.sg_ideal.proofs.classes.reach.Goals as goal

-- the step, where the set stands twice and the new one is written back
step : (t items list other new : List ℕ) (b k more n : ℕ) → list ≡ items → other ≡ items → n ≡ length new → more ≤ k + 1 → length new ≡ length list → AreClasses new →
    ((n : ℕ) → IsAboveEntry new n ↔ (IsAboveEntry list n ⊎ ((b * more ≤ n) × IsAboveEntry other (n - b * more)))) → IsReach t b k items →
    IsReach t b (k + more) (take n (new ++ drop (length new) items))
step t items list other new b k more n value copy len near long classes same h =
    subst (IsReach t b (k + more)) (sym (writes-back new items n len)) (reach-more t b k more items new (b * more) refl near (long ∙ ap length value) classes
    (subst (λ l. (n : ℕ) → IsAboveEntry new n ↔ (IsAboveEntry items n ⊎ ((b * more ≤ n) × IsAboveEntry l (n - b * more)))) copy
    (subst (λ l. (n : ℕ) → IsAboveEntry new n ↔ (IsAboveEntry l n ⊎ ((b * more ≤ n) × IsAboveEntry other (n - b * more)))) value same)) h)

pub loop-reached-preserved : goal.loop-reached-preserved
loop-reached-preserved c =
    let k = c.loop-reached.reached in
    let items = c.loop-reached.list.items in
    let more = c.min-more.result in
    let new = c.extend.new.entries in
    let least = c.min-more.ensures in
    let test = c.loop-reached-test.true in
    let value : c.deref_mut.result.now ≡ items = c.deref_mut.ensures.value in
    let copy : c.deref-in-loop-reached.result.now ≡ items = c.deref-in-loop-reached.ensures.value ∙ c.in_ok-before.ensures.items ∙ c.deref.ensures.value in
    let long : length new ≡ length items = c.extend.ensures.long ∙ ap length value in
    let len : c.loop-reached.list.len ≡ length new = omega arith in
    record {
      near = omega (arith, least, test);
      reach = step c.args.entries.now items c.deref_mut.result.now c.deref-in-loop-reached.result.now new c.args.by k more c.loop-reached.list.len value copy len
          (omega (arith, least, test)) c.extend.ensures.long c.extend.ensures.classes c.extend.ensures.same c.loop-reached.invariant.reach;
    }

pub returns-then-eq : goal.returns-then-eq
returns-then-eq c =
    let t = c.args.entries.now in
    let b = c.args.by in
    let k = c.loop-reached.reached in
    let items = c.loop-reached.list.items in
    let more = c.min-more.result in
    let new = c.extend.new.entries in
    let least = c.min-more.ensures in
    let test = c.loop-reached-test.true in
    let value : c.deref_mut.result.now ≡ items = c.deref_mut.ensures.value in
    let copy : c.deref-in-loop-reached.result.now ≡ items = c.deref-in-loop-reached.ensures.value ∙ c.in_ok-before.ensures.items ∙ c.deref.ensures.value in
    let long : length new ≡ length items = c.extend.ensures.long ∙ ap length value in
    let len : c.loop-reached.list.len ≡ length new = omega arith in
    let written = take c.loop-reached.list.len (new ++ drop (length new) items) in
    let same : items ≡ written =
    sym (sym c.as_slice.ensures.value ∙ same-slices c.as_slice.result.now c.as_slice-in-loop-reached.result.now c.if-eq.ensures ∙ c.as_slice-in-loop-reached.ensures.value ∙ c.in_ok-before.ensures.items ∙ c.deref.ensures.value) in
    let r = subst (IsReach t b k) same c.loop-reached.invariant.reach in
    let s = step t items c.deref_mut.result.now c.deref-in-loop-reached.result.now new b k more c.loop-reached.list.len value copy len (omega (arith, least, test)) c.extend.ensures.long
    c.extend.ensures.classes c.extend.ensures.same c.loop-reached.invariant.reach in
    reach-stays t b k more written (omega (arith, least, test)) r s c.args.count c.loop-reached.invariant.near
