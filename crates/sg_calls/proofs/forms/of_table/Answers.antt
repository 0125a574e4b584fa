use Rattle.std.proofs.Common.{◌≡◌, Some, None, subst}
use Rattle.sg_value.specs.Known.{named}
use Rattle.sg_value.specs.Plain.{plain_of_all}
use Rattle.sg_rows.specs.Kinds.{as_semigroup, one}
use Rattle.sg_rows.specs.Made.{Tells}
use Rattle.sg_calls.proofs.Fitting.{fitted_told, found_some}
use Rattle.sg_calls.proofs.forms.of_table.Goals as goal

pub returns-clause-reply : goal.returns-clause-reply
returns-clause-reply g c =
    let sole = one as_semigroup (plain_of_all (named c.args.store.now.ids) c.args.args.now) in
    let row = g.R.OfTable.says c.args.row in
    let found = found_some (sole ≡ None) (λ table. sole ≡ Some table.value) c.in_ok-table.field-0 c.in_ok-table.ensures.table c.in-Some.table c.in-Some.is in
    fitted_told sole _ row c.deliver.new.ids c.in-Some.table.value c.tell.result c.deliver.result found c.deliver.ensures.delivered (subst (λ G. Tells c.tell.result (row G)) c.deref.ensures c.tell.ensures)
