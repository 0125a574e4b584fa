use Rattle.std.proofs.Common.{◌+◌, min, ap, ◌∙◌, refl, arith}
use Rattle.std.proofs.lemmas.Bool.{false≢true}
use Rattle.std.proofs.lemmas.List.{take_all}
use Rattle.sg_value.specs.declared.limits.TheConstants.{WEIGHT_LIMIT}
use Rattle.sg_rows.specs.Values.{weight_of_lists, weight_of_vectors}
use Rattle.sg_rows.proofs.Listing.{light}
use Rattle.sg_calls.proofs.Weights.{lists-front, lists-more}
use Rattle.sg_calls.proofs.delivering.are_heavy.Goals as goal

pub returns-then-is_heavy : goal.returns-then-is_heavy
returns-then-is_heavy c =
    let ls = c.args.lists.now in
    let i = c.loop-vectors.vectors-index in
    let more = lists-more ls i c.vectors-item.result c.loop-vectors-test.true c.vectors-item.is in
    let front = lists-front ls (i + 1) in
    let own = c.weight_within.ensures ∙ ap (λ l. min (weight_of_vectors l) WEIGHT_LIMIT) c.as_slice.ensures in
    let many = c.is_heavy.ensures.0 c.if-is_heavy.true in
    let before = c.loop-vectors.invariant.0 in
    ((λ t. omega (arith, more, front, own, many, before)), (λ h. refl))

pub loop-vectors-preserved : goal.loop-vectors-preserved
loop-vectors-preserved c =
    let ls = c.args.lists.now in
    let i = c.loop-vectors.vectors-index in
    let more = lists-more ls i c.vectors-item.result c.loop-vectors-test.true c.vectors-item.is in
    let own = c.weight_within.ensures ∙ ap (λ l. min (weight_of_vectors l) WEIGHT_LIMIT) c.as_slice.ensures in
    let before = c.loop-vectors.invariant.0 in
    let low = light _ c.is_heavy.result c.if-is_heavy.false c.is_heavy.ensures.1 in
    (omega (arith, more, own, before, low), low)

pub returns : goal.returns
returns c =
    let ls = c.args.lists.now in
    let all = ap weight_of_lists (take_all c.loop-vectors.vectors-index ls c.loop-vectors-test.false) in
    let before = c.loop-vectors.invariant.0 in
    let low = c.loop-vectors.invariant.1 in
    ((λ t. absurd (false≢true t)), (λ heavy. absurd (omega (arith, all, before, low, heavy))))
