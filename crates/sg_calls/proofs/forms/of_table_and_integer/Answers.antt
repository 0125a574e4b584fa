use Rattle.std.proofs.Common.{◌≡◌, Some, None, sym, ◌∙◌, subst, rules}
use Rattle.std.specs.Prelude.{FitsSigned}
use Rattle.std.specs.Int.{w64}
use Rattle.sg_value.specs.Known.{named}
use Rattle.sg_value.specs.Plain.{plain, plain_of_all}
use Rattle.sg_rows.specs.Kinds.{semigroup_and_integer, two}
use Rattle.sg_rows.specs.Made.{Tells}
use Rattle.sg_rows.proofs.KindLemmas.{two_at, two_plain-none}
use Rattle.sg_rows.proofs.Signed.{of_bits_right}
use Rattle.sg_calls.proofs.EarlyLemmas.{asked_unfit}
use Rattle.sg_calls.proofs.Fitting.{fitted_told, found_some, unfitted}
use Rattle.sg_calls.proofs.forms.of_table_and_integer.Goals as goal

pub returns-then-args-ne2-clause-reply : goal.returns-then-args-ne2-clause-reply
returns-then-args-ne2-clause-reply g c =
    let names = named c.args.store.now.ids in
    unfitted (two semigroup_and_integer (plain_of_all names c.args.args.now)) _ (λ p. g.R.OfTableAndInteger.says c.args.row p.0 p.1) c.args.store.now.ids (two_plain-none names semigroup_and_integer c.args.args.now c.if-args-ne2.true)

pub returns-then-args-ne2-clause-asked : goal.returns-then-args-ne2-clause-asked
returns-then-args-ne2-clause-asked g c =
    let names = named c.args.store.now.ids in
    asked_unfit (two semigroup_and_integer (plain_of_all names c.args.args.now)) _ (λ p. g.R.OfTableAndInteger.says c.args.row p.0 p.1) c.args.store.now.attributes (two_plain-none names semigroup_and_integer c.args.args.now c.if-args-ne2.true)

pub returns-clause-reply : goal.returns-clause-reply
returns-clause-reply g c =
    let names = named c.args.store.now.ids in
    let args = c.args.args.now in
    let a = c.index-args-0.result in
    let b = c.index-args-1.result in
    let G = c.in-Some.table.value in
    let n = c.in-Some.n in
    let row = g.R.OfTableAndInteger.says c.args.row in
    let both = semigroup_and_integer (plain names a) (plain names b) in
    let fit : FitsSigned w64 n = search rules in
    let seen = found_some (both ≡ None) (λ p. both ≡ Some (p.0.value, p.1)) c.in_ok-table.field-0 c.in_ok-table.ensures.both (c.in-Some.table, n) c.in-Some.is in
    let found = sym (two_at names semigroup_and_integer args a b c.if-args-ne2.false c.index-args-0.is c.index-args-1.is) ∙ seen in
    let tells = subst (λ H. Tells c.tell.result (row H n)) c.deref.ensures (of_bits_right (λ z. Tells c.tell.result (row c.deref.result.now z)) n fit c.tell.ensures) in
    fitted_told (two semigroup_and_integer (plain_of_all names args)) _ (λ p. row p.0 p.1) c.deliver.new.ids (G, n) c.tell.result c.deliver.result found c.deliver.ensures.delivered tells
