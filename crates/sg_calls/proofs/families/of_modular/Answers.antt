use Rattle.std.proofs.Common.{sym, ◌∙◌, rules}
use Rattle.std.specs.Prelude.{FitsSigned}
use Rattle.std.specs.Int.{w64}
use Rattle.sg_value.specs.Known.{named}
use Rattle.sg_value.specs.Plain.{contents, plain_of_all, thing_at}
use Rattle.sg_rows.specs.Kinds.{two, two_integers}
use Rattle.sg_rows.specs.Made.{Tells}
use Rattle.sg_rows.proofs.KindLemmas.{two_at, two_integers-plain, two_plain-none}
use Rattle.sg_rows.proofs.Signed.{of_bits}
use Rattle.sg_rows_constructors.specs.Rows.{modular_row}
use Rattle.sg_calls.proofs.Fitting.{fitted_told, unfitted}
use Rattle.sg_calls.proofs.families.of_modular.Goals as goal

pub returns-then-args-ne2-clause-reply : goal.returns-then-args-ne2-clause-reply
returns-then-args-ne2-clause-reply c =
    let names = named c.args.ids.now in
    unfitted (two two_integers (plain_of_all names c.args.args.now)) _ (λ p. modular_row p.0 p.1) c.args.ids.now (two_plain-none names two_integers c.args.args.now c.if-args-ne2.true)

pub returns-clause-reply : goal.returns-clause-reply
returns-clause-reply c =
    let names = named c.args.ids.now in
    let args = c.args.args.now in
    let a = c.index-args-0.result in
    let b = c.index-args-1.result in
    let x = c.in-Some.a in
    let y = c.in-Some.b in
    let fit : FitsSigned w64 x = search rules in
    let also : FitsSigned w64 y = search rules in
    let seen = two_integers-plain (thing_at names) (contents a) (contents b) ∙ sym c.in-Some.ensures in
    let found = sym (two_at names two_integers args a b c.if-args-ne2.false c.index-args-0.is c.index-args-1.is) ∙ seen in
    fitted_told (two two_integers (plain_of_all names args)) _ (λ p. modular_row p.0 p.1) c.deliver.new.ids (x, y) c.modular.result c.deliver.result found c.deliver.ensures.delivered
    (of_bits (λ u v. Tells c.modular.result (modular_row u v)) x y fit also c.modular.ensures)
