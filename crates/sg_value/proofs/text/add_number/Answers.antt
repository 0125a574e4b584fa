use Rattle.std.proofs.Common.{sym, ◌∙◌}
use Rattle.sg_value.proofs.Fronts.{Adds_same}
use Rattle.sg_value.proofs.text.add_number.Goals as goal

pub returns : goal.returns
returns c = Adds_same _ _ _ _ _ (sym (c.as_bytes.ensures.value ∙ c.format.ensures.text)) c.add.ensures
