use Rattle.std.proofs.Common.{◌≡◌, ◌<◌, ◌+◌, length, sym, ap, subst, ◌∙◌, arith}
use Rattle.std.specs.Prelude.{slice_index}
use Rattle.sg_factor.specs.Coins.{AreLeastCounts}
use Rattle.sg_factor.proofs.LengthLemmas.{least-push}
use Rattle.sg_factor.proofs.length_table.least_lengths.Goals as goal

pub loop-count-preserved : goal.loop-count-preserved
loop-count-preserved c =
    let G = c.args.t.now in
    let items = c.in_ok-counts.counts.items in
    let counts = subst (λ D. AreLeastCounts D items) (c.as_slice.ensures ∙ c.generators.ensures.same) c.in_ok-counts.ensures.counts in
    let same : c.deref-count-items.result.now ≡ items = c.deref-count-items.ensures.value in
    let inside : c.loop-count.count-index < length items = omega (arith, c.loop-count-test.true, ap length same) in
    let p = least-push G items c.loop-count.least c.push.new.self c.loop-count.count-index c.least_entry.result c.args.upto c.generators.ensures.semigroup c.requires counts c.in_ok-counts.ensures.long
    inside c.loop-count.invariant.entries c.loop-count.invariant.each
    (λ e. c.least_entry.ensures.none (ap (λ k. slice_index k c.loop-count.count-index) same ∙ e))
    (λ not. c.least_entry.ensures.some (λ e. not (sym (ap (λ k. slice_index k c.loop-count.count-index) same) ∙ e)) ∙ ap (λ k. slice_index k c.loop-count.count-index + 1) same)
    c.in_ok-push.ensures.ok in
    record { entries = p.0; each = p.1 }
