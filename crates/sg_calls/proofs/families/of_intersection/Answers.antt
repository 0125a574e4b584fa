use Rattle.std.proofs.Common.{◌≡◌, Some, None, sym, ◌∙◌}
use Rattle.sg_value.specs.Known.{named}
use Rattle.sg_value.specs.Plain.{plain, plain_of_all}
use Rattle.sg_rows.specs.Kinds.{two, two_semigroups}
use Rattle.sg_rows.proofs.KindLemmas.{two_at, two_plain-none}
use Rattle.sg_rows_constructors.specs.Rows.{intersection_row}
use Rattle.sg_calls.proofs.EarlyLemmas.{asked_unfit}
use Rattle.sg_calls.proofs.Fitting.{fitted_told, found_some, pair_told, unfitted}
use Rattle.sg_calls.proofs.families.of_intersection.Goals as goal

pub returns-then-args-ne2-clause-reply : goal.returns-then-args-ne2-clause-reply
returns-then-args-ne2-clause-reply c =
    let names = named c.args.store.now.ids in
    unfitted (two two_semigroups (plain_of_all names c.args.args.now)) _ (λ p. intersection_row p.0 p.1) c.args.store.now.ids (two_plain-none names two_semigroups c.args.args.now c.if-args-ne2.true)

pub returns-then-args-ne2-clause-asked : goal.returns-then-args-ne2-clause-asked
returns-then-args-ne2-clause-asked c =
    let names = named c.args.store.now.ids in
    asked_unfit (two two_semigroups (plain_of_all names c.args.args.now)) _ (λ p. intersection_row p.0 p.1) c.args.store.now.attributes (two_plain-none names two_semigroups c.args.args.now c.if-args-ne2.true)

pub returns-clause-reply : goal.returns-clause-reply
returns-clause-reply c =
    let names = named c.args.store.now.ids in
    let args = c.args.args.now in
    let a = c.index-args-0.result in
    let b = c.index-args-1.result in
    let G = c.in-Some.one.value in
    let H = c.in-Some.other.value in
    let both = two_semigroups (plain names a) (plain names b) in
    let seen = found_some (both ≡ None) (λ p. both ≡ Some (p.0.value, p.1.value)) c.in_ok-one.field-0 c.in_ok-one.ensures.both (c.in-Some.one, c.in-Some.other) c.in-Some.is in
    let found = sym (two_at names two_semigroups args a b c.if-args-ne2.false c.index-args-0.is c.index-args-1.is) ∙ seen in
    let tells = pair_told intersection_row c.intersection.result c.deref.result.now c.deref-2.result.now G H c.intersection.ensures c.deref.ensures c.deref-2.ensures in
    fitted_told (two two_semigroups (plain_of_all names args)) _ (λ p. intersection_row p.0 p.1) c.deliver.new.ids (G, H) c.intersection.result c.deliver.result found c.deliver.ensures.delivered tells
