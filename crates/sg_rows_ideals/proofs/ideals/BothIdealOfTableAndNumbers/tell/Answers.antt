use Rattle.sg_rows_ideals.proofs.Canonically.{canonical_told}
use Rattle.sg_rows_ideals.proofs.ideals.BothIdealOfTableAndNumbers.tell.Goals as goal

pub returns : goal.returns
returns c = canonical_told c.args.self c.args.table.now c.canonical.result c.settled.result c.settled.ensures c.canonical.ensures.made c.canonical.ensures.refused
