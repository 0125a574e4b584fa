use Rattle.std.proofs.Common.{ap, sym, ◌∙◌, rules}
use Rattle.std.specs.Fmt.{signed_decimal}
use Rattle.std.specs.Int.{w64}
use Rattle.std.proofs.lemmas.Int.{to_z-of_z}
use Rattle.sg_value.proofs.Fronts.{front_more, Adds_err, Adds_same, Adds-after}
use Rattle.sg_value.proofs.text.add_separated_integer.Goals as goal

pub returns-in_err-add_separator : goal.returns-in_err-add_separator
returns-in_err-add_separator c = Adds_err _ _ _ _ c.from_residual.ensures.0 (front_more _ _ _ _ c.in_err-add_separator.ensures.err)

pub returns : goal.returns
returns c = Adds-after _ _ _ _ _ _ c.in_ok-add_separator.ensures.ok (Adds_same _ _ _ _ _ (sym (c.as_bytes.ensures.value ∙ (c.format.ensures.text ∙ ap signed_decimal (to_z-of_z w64 c.args.number.now (search rules))))) c.add.ensures)
