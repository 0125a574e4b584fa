use Rattle.sg_glue.proofs.SideLemmas.{sides-semigroups}
use Rattle.sg_glue.proofs.laws.divided_parts_are_semigroups.Goals as goal

pub returns : goal.returns
returns c = sides-semigroups
