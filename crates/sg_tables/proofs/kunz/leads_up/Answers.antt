use Rattle.sg_tables.proofs.ClosedLemmas.{leads-up}
use Rattle.sg_tables.proofs.kunz.leads_up.Goals as goal

pub returns : goal.returns
returns c = leads-up c.args.list.now c.args.generator c.args.class c.saturating_sub.result c.saturating_sub.ensures
