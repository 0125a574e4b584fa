use Rattle.std.proofs.Common.{◌≡◌, Some, None, sym, ◌∙◌}
use Rattle.sg_value.specs.Known.{named}
use Rattle.sg_value.specs.Plain.{plain, plain_of_all}
use Rattle.sg_rows.specs.Kinds.{list_then_semigroup, two}
use Rattle.sg_rows.proofs.KindLemmas.{two_at, two_plain-none}
use Rattle.sg_rows_ideals.specs.Rows.{generated_row}
use Rattle.sg_calls.proofs.EarlyLemmas.{asked_unfit}
use Rattle.sg_calls.proofs.Fitting.{fitted_told, found_some, pair_told, unfitted}
use Rattle.sg_calls.proofs.families.of_generated.Goals as goal

pub returns-then-args-ne2-clause-reply : goal.returns-then-args-ne2-clause-reply
returns-then-args-ne2-clause-reply c =
    let names = named c.args.store.now.ids in
    unfitted (two list_then_semigroup (plain_of_all names c.args.args.now)) _ (λ p. generated_row p.0 p.1) c.args.store.now.ids (two_plain-none names list_then_semigroup c.args.args.now c.if-args-ne2.true)

pub returns-then-args-ne2-clause-asked : goal.returns-then-args-ne2-clause-asked
returns-then-args-ne2-clause-asked c =
    let names = named c.args.store.now.ids in
    asked_unfit (two list_then_semigroup (plain_of_all names c.args.args.now)) _ (λ p. generated_row p.0 p.1) c.args.store.now.attributes (two_plain-none names list_then_semigroup c.args.args.now c.if-args-ne2.true)

pub returns-clause-reply : goal.returns-clause-reply
returns-clause-reply c =
    let names = named c.args.store.now.ids in
    let args = c.args.args.now in
    let a = c.index-args-0.result in
    let b = c.index-args-1.result in
    let zs = c.in-Some.given in
    let G = c.in-Some.table.value in
    let both = list_then_semigroup (plain names a) (plain names b) in
    let seen = found_some (both ≡ None) (λ p. both ≡ Some (p.0, p.1.value)) c.in_ok-given.field-0 c.in_ok-given.ensures.both (zs, c.in-Some.table) c.in-Some.is in
    let found = sym (two_at names list_then_semigroup args a b c.if-args-ne2.false c.index-args-0.is c.index-args-1.is) ∙ seen in
    let tells = pair_told generated_row c.generated.result c.as_slice.result.now c.deref.result.now zs G c.generated.ensures c.as_slice.ensures c.deref.ensures in
    fitted_told (two list_then_semigroup (plain_of_all names args)) _ (λ p. generated_row p.0 p.1) c.deliver.new.ids (zs, G) c.generated.result c.deliver.result found c.deliver.ensures.delivered tells
