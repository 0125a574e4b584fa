use Rattle.std.proofs.Common.{◌≡◌, pos, ◌-ℤ◌, sym, ◌∙◌, rules}
use Rattle.std.specs.Prelude.{FitsSigned, SomeIff}
use Rattle.std.specs.Int.{w64}
use Rattle.sg_value.specs.Data.{int}
use Rattle.sg_value.specs.Known.{named}
use Rattle.sg_value.specs.Plain.{contents, plain, thing_at}
use Rattle.sg_rows.specs.Kinds.{as_integer}
use Rattle.sg_rows.specs.Values.{answers}
use Rattle.sg_rows.proofs.KindLemmas.{as_integer-plain}
use Rattle.sg_rows.proofs.Signed.{of_bits_right}
use Rattle.sg_calls.proofs.Fitting.{fitted_by}
use Rattle.sg_calls.proofs.operations.negate.Goals as goal

pub returns : goal.returns
returns c = λ store.
    let x = c.in-Some.x in
    let seen = as_integer-plain (thing_at (named store)) (contents c.args.a.now) ∙ sym c.in-Some.ensures in
    fitted_by (as_integer (plain (named store) c.args.a.now)) _ (λ z. answers (λ d. d ≡ int (pos 0 -ℤ z))) store x c.integer.result seen
    (c.integer.ensures store (pos 0 -ℤ x) (of_bits_right (λ z. SomeIff c.checked_sub.result (FitsSigned w64 (pos 0 -ℤ z)) (pos 0 -ℤ z)) x (search rules) c.checked_sub.ensures))
