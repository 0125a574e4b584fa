use Rattle.std.proofs.Common.{sym, subst}
use Rattle.std.proofs.lemmas.Result.{IfOk-weaker}
use Rattle.sg_defs.specs.Membership.{IsMember, Generates}
use Rattle.sg_classes.specs.Classes.{IsAboveEntry}
use Rattle.sg_tables.specs.Closed.{AreClassGenerators}
use Rattle.sg_tables.proofs.ClosedLemmas.{class-table, class-generates}
use Rattle.sg_tables.proofs.kunz.kunz_generators.Goals as goal

pub minimal_part-requires-clause-table : goal.minimal_part-requires-clause-table
minimal_part-requires-clause-table c =
    let list = c.args.list.now in
    class-table list c.deref.result.now c.requires (subst (AreClassGenerators list) (sym c.deref.ensures.value) c.in_ok-entries.ensures)

pub returns : goal.returns
returns c =
    let list = c.args.list.now in
    let entries = c.deref.result.now in
    let g : AreClassGenerators list entries = subst (AreClassGenerators list) (sym c.deref.ensures.value) c.in_ok-entries.ensures in
    IfOk-weaker c.minimal_part.result (λ m. Generates (IsMember entries) m) (λ m. Generates (IsAboveEntry list) m)
    (λ m h. class-generates list entries m c.requires g h) c.minimal_part.ensures
