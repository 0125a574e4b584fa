use Rattle.std.proofs.Common.{subst}
use Rattle.sg_classes.specs.Table.{IsMinimalTable}
use Rattle.sg_apery.proofs.ReadLemmas.{entry-read}
use Rattle.sg_apery.proofs.table.Table.entry.Goals as goal

pub returns-clause-entry : goal.returns-clause-entry
returns-clause-entry c =
    let items = c.self.inside.apery.items in
    let table : IsMinimalTable c.args.self.now items = subst (λ g. IsMinimalTable g items) c.self.view_is c.self.invariant in
    entry-read c.args.self.now items c.args.i c.index.result.now table c.requires c.index.ensures
