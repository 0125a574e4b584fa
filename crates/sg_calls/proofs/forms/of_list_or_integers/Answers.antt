use Rattle.std.proofs.Common.{◌≡◌, Some, None, sym, ◌∙◌, subst}
use Rattle.sg_value.specs.Known.{named}
use Rattle.sg_value.specs.Plain.{contents_of_all, plain_of_all, thing_at}
use Rattle.sg_rows.specs.Kinds.{list_or_integers}
use Rattle.sg_rows.specs.Made.{Tells}
use Rattle.sg_rows.proofs.KindLemmas.{list_or_integers-plain}
use Rattle.sg_calls.proofs.Fitting.{fitted_told, unfitted}
use Rattle.sg_calls.proofs.forms.of_list_or_integers.Goals as goal

pub returns-in_default-clause-reply : goal.returns-in_default-clause-reply
returns-in_default-clause-reply g c =
    let names = named c.args.ids.now in
    let args = c.args.args.now in
    let none : list_or_integers (plain_of_all names args) ≡ None = list_or_integers-plain (thing_at names) (contents_of_all args) ∙ (sym c.in_ok-integers.ensures ∙ c.in_default.is) in
    unfitted (list_or_integers (plain_of_all names args)) _ (g.R.OfIntegers.says c.args.row) c.args.ids.now none

pub returns-clause-reply : goal.returns-clause-reply
returns-clause-reply g c =
    let names = named c.args.ids.now in
    let args = c.args.args.now in
    let zs = c.in-Some.integers in
    let row = g.R.OfIntegers.says c.args.row in
    let found : list_or_integers (plain_of_all names args) ≡ Some zs = list_or_integers-plain (thing_at names) (contents_of_all args) ∙ (sym c.in_ok-integers.ensures ∙ c.in-Some.is) in
    fitted_told (list_or_integers (plain_of_all names args)) _ row c.deliver.new.ids zs c.tell.result c.deliver.result found c.deliver.ensures.delivered (subst (λ xs. Tells c.tell.result (row xs)) c.as_slice.ensures c.tell.ensures)
