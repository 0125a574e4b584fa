use Rattle.std.proofs.Common.{◌≡◌, ℕ, ℤ, List, Some, None, subst, rules, [], ◌∷◌}
use Rattle.std.specs.Prelude.{FitsSigned}
use Rattle.std.specs.Int.{w64}
use Rattle.sg_value.specs.Known.{Known, named}
use Rattle.sg_value.specs.Plain.{plain}
use Rattle.sg_rows.specs.Asks.{apery_table}
use Rattle.sg_rows.specs.Forms.{on_list_and_semigroup}
use Rattle.sg_rows.specs.Kinds.{integer_then_ideal, list_then_semigroup}
use Rattle.sg_rows.specs.Made.{Tells}
use Rattle.sg_rows.proofs.Signed.{of_bits_right}
use Rattle.sg_rows_ideals.specs.Rows.{generated_row, translate_row}
use Rattle.sg_calls.specs.Asked.{the_list_and_semigroup}
use Rattle.sg_calls.proofs.Fitting.{first_told, fitted_told, found_none, found_some, kept_from, other_fitted}
use Rattle.sg_calls.proofs.operations.on_ideal_or_list.Goals as goal

pub returns-in-Some-clause-reply : goal.returns-in-Some-clause-reply
returns-in-Some-clause-reply c =
    let names = named c.args.store.now.ids in
    let a = plain names c.args.a.now in
    let b = plain names c.args.b.now in
    let x = c.in-Some.by in
    let I = c.in-Some.ideal in
    let fit : FitsSigned w64 x = search rules in
    let found = found_some (integer_then_ideal a b ≡ None) (λ p. (integer_then_ideal a b ≡ Some (p.0, p.1.1)) × (p.1.1.ambient ≡ p.1.0.value)) c.in_ok-by.field-0 c.in_ok-by.ensures.both _ c.in-Some.is in
    first_told (integer_then_ideal a b) _ (λ p. translate_row p.0 p.1) c.deliver.new.ids (x, I) c.translate_of.result c.deliver.result (on_list_and_semigroup (apery_table ∷ []) a b generated_row) found.0 c.deliver.ensures.delivered
    (of_bits_right (λ z. Tells c.translate_of.result (translate_row z I)) x fit c.translate_of.ensures)

pub returns-in-Some-clause-keeps : goal.returns-in-Some-clause-keeps
returns-in-Some-clause-keeps c = kept_from c.args.store.now.ids c.integer_then_ideal.new.store.ids c.deliver.new.ids c.integer_then_ideal.ensures.ids c.deliver.ensures.keeps

pub returns-clause-reply : goal.returns-clause-reply
returns-clause-reply c =
    let names = named c.args.store.now.ids in
    let a = plain names c.args.a.now in
    let b = plain names c.args.b.now in
    let asked = c.integer_then_ideal.new.store.ids in
    let zs = c.in-Some-2.given in
    let G = c.in-Some-2.table.value in
    let r = c.deliver-2.result in
    let store = c.deliver-2.new.ids in
    let P : Known → List ℤ × List ℕ → Type 0 = λ s q. the_list_and_semigroup s c.args.a.now c.args.b.now ≡ Some q in
    let none = found_none (integer_then_ideal a b ≡ None) (λ p. (integer_then_ideal a b ≡ Some (p.0, p.1.1)) × (p.1.1.ambient ≡ p.1.0.value)) c.in_ok-by.field-0 c.in_ok-by.ensures.both c.in_default.is in
    let found = found_some (the_list_and_semigroup asked c.args.a.now c.args.b.now ≡ None) (λ p. P asked (p.0, p.1.value)) c.in_ok-given.field-0 c.in_ok-given.ensures.both _ c.in-Some-2.is in
    let tells = subst (λ H. Tells c.generated.result (generated_row zs H)) c.deref-2.ensures (subst (λ ys. Tells c.generated.result (generated_row ys c.deref-2.result.now)) c.as_slice.ensures c.generated.ensures) in
    other_fitted (integer_then_ideal a b) _ (λ p. translate_row p.0 p.1) store r (on_list_and_semigroup (apery_table ∷ []) a b generated_row) none
    (fitted_told (list_then_semigroup a b) _ (λ p. generated_row p.0 p.1) store (zs, G) c.generated.result r (subst (λ s. P s (zs, G)) c.integer_then_ideal.ensures.ids found) c.deliver-2.ensures.delivered tells)
