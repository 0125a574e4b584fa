use Rattle.std.proofs.Common.{◌≡◌, Some, None, subst}
use Rattle.sg_defs.specs.Invariants.{IsPseudoFrobenius}
use Rattle.sg_defs.specs.Listings.{ListsIntegers}
use Rattle.sg_value.specs.Known.{named}
use Rattle.sg_value.specs.Plain.{plain_of_all}
use Rattle.sg_rows.specs.Kinds.{as_semigroup, one}
use Rattle.sg_rows.specs.Made.{Tells}
use Rattle.sg_calls.proofs.Fitting.{fitted_told, found_some}
use Rattle.sg_calls.proofs.forms.of_table_and_numbers.Goals as goal

pub returns-clause-reply : goal.returns-clause-reply
returns-clause-reply g c =
    let sole = one as_semigroup (plain_of_all (named c.args.store.now.ids) c.args.args.now) in
    let row = g.R.OfTableAndNumbers.says c.args.row in
    let found = found_some (sole ≡ None) (λ p. (sole ≡ Some p.0.value) × ListsIntegers (IsPseudoFrobenius p.0.value) p.1.value) c.in_ok-table.field-0 c.in_ok-table.ensures.both (c.in-Some.table, c.in-Some.numbers) c.in-Some.is in
    fitted_told sole _ row c.deliver.new.ids c.in-Some.table.value c.tell.result c.deliver.result found.0 c.deliver.ensures.delivered (subst (λ G. Tells c.tell.result (row G)) c.deref.ensures c.tell.ensures)
