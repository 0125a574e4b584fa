use Rattle.std.proofs.Common.{◌≡◌, Some, None, sym, ◌∙◌, rules, [], ◌∷◌}
use Rattle.std.specs.Prelude.{FitsSigned}
use Rattle.std.specs.Int.{w64}
use Rattle.sg_value.specs.Known.{named}
use Rattle.sg_value.specs.Plain.{contents, plain, thing_at}
use Rattle.sg_rows.specs.Asks.{apery_table}
use Rattle.sg_rows.specs.Forms.{on_integer_and_ideal}
use Rattle.sg_rows.specs.Kinds.{integer_then_ideal, two_integers}
use Rattle.sg_rows.specs.Made.{Tells}
use Rattle.sg_rows.proofs.KindLemmas.{two_integers-plain}
use Rattle.sg_rows.proofs.Signed.{of_bits_right}
use Rattle.sg_rows_ideals.specs.Rows.{multiple_row}
use Rattle.sg_calls.specs.Operations.{calculation}
use Rattle.sg_calls.specs.declared.operator.Operator.TheVariants.{Times}
use Rattle.sg_calls.proofs.Fitting.{fitted_told, found_some, kept_from, other_given}
use Rattle.sg_calls.proofs.operations.times.Goals as goal

pub returns-clause-reply : goal.returns-clause-reply
returns-clause-reply c =
    let names = named c.args.store.now.ids in
    let a = plain names c.args.a.now in
    let b = plain names c.args.b.now in
    let k = c.in-Some-2.factor in
    let I = c.in-Some-2.ideal in
    let fit : FitsSigned w64 k = search rules in
    let none : two_integers a b ≡ None = two_integers-plain (thing_at names) (contents c.args.a.now) (contents c.args.b.now) ∙ sym c.in_default.ensures in
    let found = found_some (integer_then_ideal a b ≡ None) (λ p. (integer_then_ideal a b ≡ Some (p.0, p.1.1)) × (p.1.1.ambient ≡ p.1.0.value)) c.in_ok-factor.field-0 c.in_ok-factor.ensures.both _ c.in-Some-2.is in
    other_given (two_integers a b) (λ p. calculation Times p.0 p.1) c.deliver.new.ids c.deliver.result (on_integer_and_ideal (apery_table ∷ []) a b multiple_row) none
    (fitted_told (integer_then_ideal a b) _ (λ p. multiple_row p.0 p.1) c.deliver.new.ids (k, I) c.multiple_of.result c.deliver.result found.0 c.deliver.ensures.delivered
    (of_bits_right (λ z. Tells c.multiple_of.result (multiple_row z I)) k fit c.multiple_of.ensures))

pub returns-clause-keeps : goal.returns-clause-keeps
returns-clause-keeps c = kept_from c.args.store.now.ids c.integer_then_ideal.new.store.ids c.deliver.new.ids c.integer_then_ideal.ensures.ids c.deliver.ensures.keeps
