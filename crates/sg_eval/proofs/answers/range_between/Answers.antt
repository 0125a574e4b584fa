use Rattle.std.proofs.Common.{◌≡◌, ◌-ℤ◌, ◌-◌, ◌^◌, min, Ok, sym, subst, rules}
use Rattle.std.proofs.lemmas.Int.{to_z-of_z}
use Rattle.std.specs.Prelude.{FitsSigned}
use Rattle.std.specs.Int.{w64}
use Rattle.sg_rows.proofs.Signed.{of_bits}
use Rattle.sg_value.specs.Plain.{plain}
use Rattle.sg_meaning.specs.Expressions.{ask}
use Rattle.sg_eval.specs.Outcomes.{Evaluates}
use Rattle.sg_meaning.specs.Queries.{span_count, spans}
use Rattle.sg_eval.specs.Ranges.{IsRange, list_of_range, is_range}
use Rattle.sg_eval.proofs.Spanned.{span_low, span_high, span_large, span_fine, range_within}
use Rattle.sg_eval.proofs.answers.range_between.Goals as goal

pub returns-in_default-clause-asked : goal.returns-in_default-clause-asked
returns-in_default-clause-asked c = λ s. span_low c.args.low.now c.args.high.now s (sym c.in_default.ensures)

pub returns-in_default-integer_of-clause-asked : goal.returns-in_default-integer_of-clause-asked
returns-in_default-integer_of-clause-asked c = λ s. span_high c.args.low.now c.args.high.now s c.in-Some.first (sym c.in-Some.ensures) (sym c.in_default-integer_of.ensures)

pub returns-then-count-ge-WEIGHT_LIMIT-clause-asked : goal.returns-then-count-ge-WEIGHT_LIMIT-clause-asked
returns-then-count-ge-WEIGHT_LIMIT-clause-asked c = λ s.
    let x = c.in-Some.first in
    let y = c.in-Some-integer_of.last in
    let n = c.count_between-count.result in
    let fit_x : FitsSigned w64 x = search rules in
    let fit_y : FitsSigned w64 y = search rules in
    let count : n ≡ min (span_count (y -ℤ x)) (2 ^ 64 - 1) = of_bits (λ a b. n ≡ min (span_count (b -ℤ a)) (2 ^ 64 - 1)) x y fit_x fit_y c.count_between-count.ensures in
    span_large c.args.low.now c.args.high.now s x y (sym c.in-Some.ensures) (sym c.in-Some-integer_of.ensures) n count c.if-count-ge-WEIGHT_LIMIT.true

pub returns-clause-within : goal.returns-clause-within
returns-clause-within c =
    let x = c.in-Some.first in
    let y = c.in-Some-integer_of.last in
    let n = c.count_between-count.result in
    let fit_x : FitsSigned w64 x = search rules in
    let fit_y : FitsSigned w64 y = search rules in
    let count : n ≡ min (span_count (y -ℤ x)) (2 ^ 64 - 1) = of_bits (λ a b. n ≡ min (span_count (b -ℤ a)) (2 ^ 64 - 1)) x y fit_x fit_y c.count_between-count.ensures in
    subst (λ z. IsRange (record { first = z; count = n })) (sym (to_z-of_z w64 x fit_x)) (range_within x y n fit_x fit_y count c.if-count-ge-WEIGHT_LIMIT.false)

pub returns-clause-asked : goal.returns-clause-asked
returns-clause-asked c = λ s.
    let x = c.in-Some.first in
    let y = c.in-Some-integer_of.last in
    let n = c.count_between-count.result in
    let fit_x : FitsSigned w64 x = search rules in
    let fit_y : FitsSigned w64 y = search rules in
    let count : n ≡ min (span_count (y -ℤ x)) (2 ^ 64 - 1) = of_bits (λ a b. n ≡ min (span_count (b -ℤ a)) (2 ^ 64 - 1)) x y fit_x fit_y c.count_between-count.ensures in
    subst (λ z. Evaluates list_of_range is_range (Ok (record { first = z; count = n })) s s (λ names. ask (spans (plain names c.args.low.now) (plain names c.args.high.now)))) (sym (to_z-of_z w64 x fit_x))
    (span_fine c.args.low.now c.args.high.now s x y (sym c.in-Some.ensures) (sym c.in-Some-integer_of.ensures) n count (range_within x y n fit_x fit_y count c.if-count-ge-WEIGHT_LIMIT.false))
