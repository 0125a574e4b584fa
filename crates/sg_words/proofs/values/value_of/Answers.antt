use Rattle.std.proofs.Common.{◌≡◌, rules, arith, true, ◌<◌, ◌^◌}
use Rattle.std.specs.Char.{is_ascii_digit}
use Rattle.std.specs.List.{list_all}
use Rattle.std.specs.Str.Parse.{digits_value}
use Rattle.std.proofs.lemmas.Str.Parse.{IsNumeralModel, digits_value_short, numerals_by_value, parse_gives}
use Rattle.sg_words.proofs.values.value_of.Goals as goal

own : IsNumeralModel (λ ds. list_all is_ascii_digit ds ≡ true) (digits_value 10)
own = numerals_by_value _ (search rules)

pub returns : goal.returns
returns c =
    let short : digits_value 10 c.args.digits.now < 10 ^ 10 = digits_value_short own c.args.digits.now 10 c.requires.digits c.requires.few in
    let parsed = parse_gives own 64 c.args.digits.now c.parse.result c.parse.ensures.value.0 c.requires.digits c.requires.some (omega arith) in
    rw parsed at c.unwrap_or.ensures
