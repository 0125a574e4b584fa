use Rattle.std.proofs.Common.{◌≡◌, Some, None, sym, ◌∙◌, subst, rules}
use Rattle.std.specs.Prelude.{FitsSigned}
use Rattle.std.specs.Int.{w64}
use Rattle.sg_value.specs.Known.{named}
use Rattle.sg_value.specs.Plain.{plain, plain_of_all}
use Rattle.sg_rows.specs.Kinds.{integer_then_semigroup, two}
use Rattle.sg_rows.specs.Made.{Tells}
use Rattle.sg_rows.proofs.KindLemmas.{two_at, two_plain-none}
use Rattle.sg_rows.proofs.Signed.{of_bits_right}
use Rattle.sg_rows_constructors.specs.Rows.{quotient_row}
use Rattle.sg_calls.proofs.EarlyLemmas.{asked_unfit}
use Rattle.sg_calls.proofs.Fitting.{fitted_told, found_some, unfitted}
use Rattle.sg_calls.proofs.families.of_quotient.Goals as goal

pub returns-then-args-ne2-clause-reply : goal.returns-then-args-ne2-clause-reply
returns-then-args-ne2-clause-reply c =
    let names = named c.args.store.now.ids in
    unfitted (two (λ a b. integer_then_semigroup b a) (plain_of_all names c.args.args.now)) _ (λ p. quotient_row p.1 p.0) c.args.store.now.ids (two_plain-none names (λ a b. integer_then_semigroup b a) c.args.args.now c.if-args-ne2.true)

pub returns-then-args-ne2-clause-asked : goal.returns-then-args-ne2-clause-asked
returns-then-args-ne2-clause-asked c =
    let names = named c.args.store.now.ids in
    asked_unfit (two (λ a b. integer_then_semigroup b a) (plain_of_all names c.args.args.now)) _ (λ p. quotient_row p.1 p.0) c.args.store.now.attributes (two_plain-none names (λ a b. integer_then_semigroup b a) c.args.args.now c.if-args-ne2.true)

pub returns-clause-reply : goal.returns-clause-reply
returns-clause-reply c =
    let names = named c.args.store.now.ids in
    let args = c.args.args.now in
    let a = c.index-args-0.result in
    let b = c.index-args-1.result in
    let r = c.quotient_by.result in
    let n = c.in-Some.divisor in
    let G = c.in-Some.table.value in
    let both = integer_then_semigroup (plain names b) (plain names a) in
    let fit : FitsSigned w64 n = search rules in
    let seen = found_some (both ≡ None) (λ p. both ≡ Some (p.0, p.1.value)) c.in_ok-divisor.field-0 c.in_ok-divisor.ensures.both (n, c.in-Some.table) c.in-Some.is in
    let found = sym (two_at names (λ d e. integer_then_semigroup e d) args a b c.if-args-ne2.false c.index-args-0.is c.index-args-1.is) ∙ seen in
    let tells = subst (λ H. Tells r (quotient_row H n)) c.deref.ensures (of_bits_right (λ z. Tells r (quotient_row c.deref.result.now z)) n fit c.quotient_by.ensures) in
    fitted_told (two (λ d e. integer_then_semigroup e d) (plain_of_all names args)) _ (λ p. quotient_row p.1 p.0) c.deliver.new.ids (n, G) r c.deliver.result found c.deliver.ensures.delivered tells
