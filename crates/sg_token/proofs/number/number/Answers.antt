use Rattle.std.proofs.Common.{ap, sym, ◌∙◌, Some, min, ◌^◌, ◌-◌, w64}
use Rattle.std.specs.List.{list_all}
use Rattle.std.specs.Char.{is_ascii_digit}
use Rattle.std.proofs.lemmas.List.{take_all}
use Rattle.std.proofs.lemmas.List.Folds.{list_all_at}
use Rattle.std.proofs.lemmas.Int.{to_z_pos}
use Rattle.sg_token.specs.Runs.{value_of}
use Rattle.sg_token.proofs.NumberLemmas.{number_read, number_large, number_none}
use Rattle.sg_token.proofs.number.number.Goals as goal

pub returns-then-not-is_ascii_digit : goal.returns-then-not-is_ascii_digit
returns-then-not-is_ascii_digit c =
    number_none c.args.run.now
    (list_all_at is_ascii_digit c.args.run.now c.loop-digit.digit-index 0 c.loop-digit-test.true (sym c.is_ascii_digit.ensures.value ∙ c.if-not-is_ascii_digit.true))

pub returns-then-value-lt-LIMIT : goal.returns-then-value-lt-LIMIT
returns-then-value-lt-LIMIT c =
    let run = c.args.run.now in
    let whole = take_all c.loop-digit.digit-index run c.loop-digit-test.false in
    ap Some (to_z_pos w64 c.loop-digit.value c.if-value-lt-LIMIT.true)
    ∙ number_read run c.loop-digit.value (ap (list_all is_ascii_digit) (sym whole) ∙ c.loop-digit.invariant.digits)
    (c.loop-digit.invariant.value ∙ ap (λ digits. min (value_of digits) (2 ^ 64 - 1)) whole) c.if-value-lt-LIMIT.true

pub returns-else-value-lt-LIMIT : goal.returns-else-value-lt-LIMIT
returns-else-value-lt-LIMIT c =
    let whole = take_all c.loop-digit.digit-index c.args.run.now c.loop-digit-test.false in
    number_large c.args.run.now c.loop-digit.value (c.loop-digit.invariant.value ∙ ap (λ digits. min (value_of digits) (2 ^ 64 - 1)) whole) c.if-value-lt-LIMIT.false
