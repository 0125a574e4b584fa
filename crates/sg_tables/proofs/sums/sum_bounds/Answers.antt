use Rattle.std.proofs.Common.{◌≡◌, ◌∙◌, ◌<◌, length, sym, subst, rules, arith}
use Rattle.std.proofs.lemmas.Result.{IfOk-weaker}
use Rattle.sg_classes.proofs.LoweredLemmas.{writes-back}
use Rattle.sg_tables.specs.Sums.{AreBelowEntries, AreBelowSums, AreSumBounds, IsLowered}
use Rattle.sg_tables.proofs.SumLemmas.{below-lowered, bounds-from_least}
use Rattle.sg_tables.proofs.sums.sum_bounds.Goals as goal

pub returns : goal.returns
returns c =
    let entries = c.args.entries.now in
    let first = c.in_ok-least.least.items in
    let lowered = c.lower_fully.new.least in
    let len : c.in_ok-least.least.len ≡ length first = search rules in
    let positive : 0 < length first = omega (arith, len, c.in_ok-least.ensures.length) in
    let h : IsLowered first lowered = subst (λ o. IsLowered o lowered) c.deref_mut.ensures.value c.lower_fully.ensures.lowered in
    let below : AreBelowEntries entries lowered = below-lowered entries first lowered positive h c.in_ok-least.ensures.below in
    let same : c.deref.result.now ≡ lowered = c.deref.ensures.value ∙ writes-back lowered first c.in_ok-least.least.len (len ∙ sym h.long) in
    IfOk-weaker c.pair_sums.result (λ sums. AreBelowSums c.deref.result.now sums.items) (λ bounds. AreSumBounds entries bounds.items)
    (λ sums s. bounds-from_least entries lowered sums.items (omega (arith, h.long, positive)) below c.lower_fully.ensures.settled (subst (λ l. AreBelowSums l sums.items) same s)) c.pair_sums.ensures
