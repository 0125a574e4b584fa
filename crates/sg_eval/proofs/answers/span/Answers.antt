use Rattle.std.proofs.Common.{◌≡◌, ℕ, ◌<◌, pos, ◌+ℤ◌, sym, ◌∙◌, subst, rules}
use Rattle.std.specs.Prelude.{FitsSigned}
use Rattle.std.specs.Int.{w64}
use Rattle.std.proofs.lemmas.Int.{to_z-of_z}
use Rattle.sg_value.specs.Plain.{AllKnown, contents_of_all, plain}
use Rattle.sg_rows.proofs.Signed.{of_bits_right}
use Rattle.sg_meaning.specs.Entries.{integers_from}
use Rattle.sg_meaning.specs.Expressions.{ask}
use Rattle.sg_meaning.specs.Queries.{spans}
use Rattle.sg_eval.specs.Ranges.{list_of_range, is_range}
use Rattle.sg_eval.proofs.Ranged.{exit_as, range_listed}
use Rattle.sg_eval.proofs.answers.span.Goals as goal

pub integers_from-requires-clause-within : goal.integers_from-requires-clause-within
integers_from-requires-clause-within c =
    let z = c.in_ok-range.range.first in
    let fit : FitsSigned w64 z = search rules in
    subst (λ y. (i : ℕ) → i < c.in_ok-range.range.count → FitsSigned w64 (y +ℤ pos i)) (sym (to_z-of_z w64 z fit)) c.in_ok-range.ensures.within.within

pub integers_from-requires-clause-small : goal.integers_from-requires-clause-small
integers_from-requires-clause-small c = c.in_ok-range.ensures.within.few

pub returns-in_err-range : goal.returns-in_err-range
returns-in_err-range c = λ s.
    exit_as list_of_range is_range plain AllKnown c.from_residual.result _ s s (λ names. ask (spans (plain names c.args.low.now) (plain names c.args.high.now))) c.from_residual.ensures.1 (c.in_err-range.ensures.asked s)

pub returns : goal.returns
returns c = λ s.
    let z = c.in_ok-range.range.first in
    let n = c.in_ok-range.range.count in
    let vs = c.in_ok-integers.integers in
    let fit : FitsSigned w64 z = search rules in
    let is : contents_of_all vs.items ≡ integers_from z n = of_bits_right (λ a. contents_of_all vs.items ≡ integers_from a n) z fit c.in_ok-integers.ensures in
    range_listed c.in_ok-range.range c.in_ok-from_vec.field-0 s s (λ names. ask (spans (plain names c.args.low.now) (plain names c.args.high.now))) (c.in_ok-range.ensures.asked s) (c.in_ok-from_vec.ensures ∙ is)
