use Rattle.std.proofs.Common.{sym, ◌∙◌, rules}
use Rattle.std.specs.Prelude.{FitsSigned}
use Rattle.std.specs.Int.{w64}
use mir.Val.{of_z, to_z}
use Rattle.sg_value.specs.Known.{named}
use Rattle.sg_value.specs.Plain.{contents_of_all, plain_of_all, thing_at}
use Rattle.sg_rows.specs.Kinds.{three, three_integers}
use Rattle.sg_rows.specs.Made.{Tells}
use Rattle.sg_rows.proofs.KindLemmas.{three_integers-plain}
use Rattle.sg_rows.proofs.Signed.{of_bits, of_bits_right}
use Rattle.sg_rows_constructors.specs.Rows.{proportional_row}
use Rattle.sg_calls.proofs.Fitting.{fitted_told}
use Rattle.sg_calls.proofs.families.of_proportional.Goals as goal

pub returns-clause-reply : goal.returns-clause-reply
returns-clause-reply c =
    let names = named c.args.ids.now in
    let args = c.args.args.now in
    let r = c.proportional.result in
    let x = c.in-Some.a in
    let y = c.in-Some.b in
    let z = c.in-Some.c in
    let fit_x : FitsSigned w64 x = search rules in
    let fit_y : FitsSigned w64 y = search rules in
    let fit_z : FitsSigned w64 z = search rules in
    let found = three_integers-plain (thing_at names) (contents_of_all args) ∙ sym c.in-Some.ensures in
    let tells = of_bits_right (λ w. Tells r (proportional_row x y w)) z fit_z (of_bits (λ u v. Tells r (proportional_row u v (to_z w64 (of_z w64 z)))) x y fit_x fit_y c.proportional.ensures) in
    fitted_told (three three_integers (plain_of_all names args)) _ (λ p. proportional_row p.0 p.1.0 p.1.1) c.deliver.new.ids (x, (y, z)) r c.deliver.result found c.deliver.ensures.delivered tells
