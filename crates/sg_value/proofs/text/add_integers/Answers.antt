use Rattle.sg_value.proofs.Fronts.{front_more, front_after, Adds_err, Adds-after}
use Rattle.sg_value.proofs.text.add_integers.Goals as goal

pub returns-in_err-add : goal.returns-in_err-add
returns-in_err-add c = Adds_err _ _ _ _ c.from_residual.ensures.0 (front_more _ _ _ _ c.in_err-add.ensures.err)

pub returns-in_err-add_each_integer : goal.returns-in_err-add_each_integer
returns-in_err-add_each_integer c = Adds_err _ _ _ _ c.from_residual-in_err-add_each_integer.ensures.0 (front_after _ _ _ _ _ c.in_ok-add.ensures.ok (front_more _ _ _ _ c.in_err-add_each_integer.ensures.err))

pub returns : goal.returns
returns c = Adds-after _ _ _ _ _ _ c.in_ok-add.ensures.ok (Adds-after _ _ _ _ _ _ c.in_ok-add_each_integer.ensures.ok c.add-2.ensures)
