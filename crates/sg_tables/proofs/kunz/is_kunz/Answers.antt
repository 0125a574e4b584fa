use Rattle.std.proofs.Common.{sym, subst}
use Rattle.sg_tables.specs.Closed.{AreClassGenerators}
use Rattle.sg_tables.proofs.kunz.is_kunz.Goals as goal

pub is_kunz_by-requires-clause-generators : goal.is_kunz_by-requires-clause-generators
is_kunz_by-requires-clause-generators c = subst (AreClassGenerators c.args.list.now) (sym c.deref.ensures.value) c.in_ok-entries.ensures
