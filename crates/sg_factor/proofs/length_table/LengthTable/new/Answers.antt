use Rattle.std.proofs.Common.{◌≡◌, ℕ, ◌≤◌, ◌<◌, ◌-◌, ◌*◌, ◌/◌, ◌+◌, List, length, get_or, sym, ap, subst, ◌∙◌, arith}
use Rattle.std.specs.Prelude.{slice_index, All}
use Rattle.sg_defs.proofs.MinimalLemmas.{first-least}
use Rattle.sg_factor.specs.Coins.{AreLeastCounts}
use Rattle.sg_factor.specs.LengthTables.{IsLengthTable, differences_of}
use Rattle.sg_factor.proofs.AscendingLemmas.{ascends-le}
use Rattle.sg_factor.proofs.LengthLemmas.{differences-positive, table-made}
use Rattle.sg_factor.proofs.length_table.LengthTable.new.Goals as goal

pub differences-requires-clause-least : goal.differences-requires-clause-least
differences-requires-clause-least c =
    let same : c.as_slice-given.result.now ≡ c.args.t.now = c.as_slice-given.ensures ∙ c.in_ok-generators.ensures ∙ c.generators.ensures.same in
    subst (λ (l : List ℕ). (k : ℕ) → k < length l → slice_index l 0 ≤ slice_index l k) (sym same) (first-least c.args.t.now c.generators.ensures.minimal.ascending)

pub overflow_sub-last-2 : goal.overflow_sub-last-2
overflow_sub-last-2 c =
    let same : c.as_slice-given.result.now ≡ c.args.t.now = c.as_slice-given.ensures ∙ c.in_ok-generators.ensures ∙ c.generators.ensures.same in
    subst (λ (l : List ℕ). get_or l 0 0 ≤ get_or l (length l - 1) 0) (sym same)
    (ascends-le c.args.t.now c.generators.ensures.minimal.ascending 0 (length c.args.t.now - 1) (omega arith) (omega (arith, c.generators.ensures.semigroup.not_empty)))

pub coin_table-requires-clause-positive : goal.coin_table-requires-clause-positive
coin_table-requires-clause-positive c =
    let same : c.as_slice-given.result.now ≡ c.args.t.now = c.as_slice-given.ensures ∙ c.in_ok-generators.ensures ∙ c.generators.ensures.same in
    let coins : c.deref.result.now ≡ differences_of c.args.t.now = c.deref.ensures.value ∙ c.in_ok-coins.ensures ∙ ap differences_of same in
    subst (All (λ d. 1 ≤ d)) (sym coins) (differences-positive c.args.t.now c.generators.ensures.minimal.ascending)

pub invariant_of-result : goal.invariant_of-result
invariant_of-result c =
    let G = c.args.t.now in
    let kept : c.in_ok-generators.generators ≡ G = c.in_ok-generators.ensures ∙ c.generators.ensures.same in
    let same : c.as_slice-given.result.now ≡ G = c.as_slice-given.ensures ∙ kept in
    let coins : c.deref.result.now ≡ differences_of G = c.deref.ensures.value ∙ c.in_ok-coins.ensures ∙ ap differences_of same in
    let counts = subst (λ D. AreLeastCounts D c.in_ok-counts.counts.items) coins c.in_ok-counts.ensures.counts in
    let long = subst (λ (l : List ℕ). length c.in_ok-counts.counts.items ≡ c.args.upto * (get_or l (length l - 1) 0 - get_or l 0 0) / get_or l (length l - 1) 0 + 1) same c.in_ok-counts.ensures.long in
    subst (λ g. IsLengthTable g c.args.upto c.in_ok-counts.counts.items) (sym kept)
    (table-made G c.in_ok-counts.counts.items c.args.upto c.generators.ensures.semigroup c.generators.ensures.minimal.ascending c.requires counts long)
