use Rattle.sg_value.proofs.Fronts.{front_more, Adds_err, Adds-after}
use Rattle.sg_value.proofs.text.add_separated_number.Goals as goal

pub returns-in_err-add_separator : goal.returns-in_err-add_separator
returns-in_err-add_separator c = Adds_err _ _ _ _ c.from_residual.ensures.0 (front_more _ _ _ _ c.in_err-add_separator.ensures.err)

pub returns : goal.returns
returns c = Adds-after _ _ _ _ _ _ c.in_ok-add_separator.ensures.ok c.add_number.ensures
