use Rattle.std.proofs.lemmas.Result.{IfOk-weaker}
use Rattle.sg_defs.specs.Membership.{Generates}
use Rattle.sg_classes.specs.Classes.{IsAboveEntry}
use Rattle.sg_classes.specs.Table.{IsAperyTable}
use Rattle.sg_classes.proofs.KunzLemmas.{kunz-generated_table}
use Rattle.sg_apery.proofs.table.Table.from_apery.Goals as goal

pub returns-clause-apery : goal.returns-clause-apery
returns-clause-apery c =
    let list = c.args.list.now in
    IfOk-weaker c.from_kunz.result (λ table. Generates (IsAboveEntry list) table) (λ table. IsAperyTable table list)
    (λ table g. kunz-generated_table list table (c.in_ok-is_kunz.ensures.0 c.if-not-branch.false) g) c.from_kunz.ensures.generated
