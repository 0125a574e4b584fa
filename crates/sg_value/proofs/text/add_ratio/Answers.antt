use Rattle.sg_value.proofs.Fronts.{front_more, front_after, Adds_err, Adds-after}
use Rattle.sg_value.proofs.text.add_ratio.Goals as goal

pub returns-in_err-add_number : goal.returns-in_err-add_number
returns-in_err-add_number c = Adds_err _ _ _ _ c.from_residual.ensures.0 (front_more _ _ _ _ c.in_err-add_number.ensures.err)

pub returns-in_err-add : goal.returns-in_err-add
returns-in_err-add c = Adds_err _ _ _ _ c.from_residual-in_err-add.ensures.0 (front_after _ _ _ _ _ c.in_ok-add_number.ensures.ok (front_more _ _ _ _ c.in_err-add.ensures.err))

pub returns : goal.returns
returns c = Adds-after _ _ _ _ _ _ c.in_ok-add_number.ensures.ok (Adds-after _ _ _ _ _ _ c.in_ok-add.ensures.ok c.add_number-2.ensures)
