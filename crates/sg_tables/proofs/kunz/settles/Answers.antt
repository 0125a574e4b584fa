use Rattle.std.proofs.Common.{◌∙◌}
use Rattle.sg_tables.proofs.kunz.settles.Goals as goal

pub is_settled-requires-clause-copy : goal.is_settled-requires-clause-copy
is_settled-requires-clause-copy c = c.deref_mut.ensures.value ∙ c.in_ok-table.ensures.items
