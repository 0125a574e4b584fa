use Rattle.std.proofs.Common.{◌≡◌, Some, None, subst, rules, [], ◌∷◌}
use Rattle.sg_value.specs.Known.{named}
use Rattle.sg_value.specs.Plain.{plain_of_all}
use Rattle.sg_rows.specs.Asks.{apery_table}
use Rattle.sg_rows.specs.Forms.{of_semigroup_and_integer}
use Rattle.sg_rows.specs.Kinds.{as_semigroup, one}
use Rattle.sg_rows.specs.Made.{Tells}
use Rattle.sg_rows.specs.Replies.{Replies}
use Rattle.sg_rows_factorizations.specs.Elements.{element_row, semigroup_omega_row}
use Rattle.sg_rows_factorizations.specs.declared.element.ElementFact.TheVariants.{OmegaPrimality}
use Rattle.sg_calls.specs.After.{Asked}
use Rattle.sg_calls.specs.Early.{early_of}
use Rattle.sg_calls.proofs.EarlyLemmas.{asked_other, none_asked}
use Rattle.sg_calls.proofs.Fitting.{first_told, found_none, found_some, other_fitted}
use Rattle.sg_calls.proofs.families.of_omega.Goals as goal

pub returns-in-Some-clause-reply : goal.returns-in-Some-clause-reply
returns-in-Some-clause-reply c =
    let args = c.args.args.now in
    let all = plain_of_all (named c.args.store.now.ids) args in
    let sole = one as_semigroup all in
    let found = found_some (sole ≡ None) (λ t. sole ≡ Some t.value) c.in_ok-table.field-0 c.in_ok-table.ensures.table _ c.in-Some.is in
    let same : c.deref.result.now ≡ c.in-Some.table.value = search rules in
    first_told sole _ semigroup_omega_row c.deliver.new.ids _ c.tell.result c.deliver.result (of_semigroup_and_integer (apery_table ∷ []) all (element_row OmegaPrimality)) found c.deliver.ensures.delivered
    (subst (λ G. Tells c.tell.result (semigroup_omega_row G)) same c.tell.ensures)

pub returns-in-None-clause-reply : goal.returns-in-None-clause-reply
returns-in-None-clause-reply c =
    let args = c.args.args.now in
    let all = plain_of_all (named c.args.store.now.ids) args in
    let sole = one as_semigroup all in
    let r = c.of_table_and_integer.result in
    let store = c.of_table_and_integer.new.store.ids in
    let none = found_none (sole ≡ None) (λ t. sole ≡ Some t.value) c.in_ok-table.field-0 c.in_ok-table.ensures.table c.in-None.is in
    let reply = subst (λ s. Replies r store (of_semigroup_and_integer (apery_table ∷ []) (plain_of_all (named s) args) (element_row OmegaPrimality))) c.one_table.ensures.ids c.of_table_and_integer.ensures.reply in
    other_fitted sole _ semigroup_omega_row store r (of_semigroup_and_integer (apery_table ∷ []) all (element_row OmegaPrimality)) none reply

pub returns-in-None-clause-asked : goal.returns-in-None-clause-asked
returns-in-None-clause-asked c =
    let args = c.args.args.now in
    let all = plain_of_all (named c.args.store.now.ids) args in
    let sole = one as_semigroup all in
    let r = c.of_table_and_integer.result in
    let old = c.args.store.now.attributes in
    let new = c.of_table_and_integer.new.store.attributes in
    let none = found_none (sole ≡ None) (λ t. sole ≡ Some t.value) c.in_ok-table.field-0 c.in_ok-table.ensures.table c.in-None.is in
    let same = none_asked (apery_table ∷ []) sole (λ G. G ∷ []) old c.one_table.new.store.attributes none c.in_ok-table.ensures.asked in
    let asked = subst (λ s. Asked r (early_of (of_semigroup_and_integer (apery_table ∷ []) (plain_of_all (named s) args) (element_row OmegaPrimality))) c.one_table.new.store.attributes new) c.one_table.ensures.ids c.of_table_and_integer.ensures.asked in
    asked_other sole _ semigroup_omega_row r old new (of_semigroup_and_integer (apery_table ∷ []) all (element_row OmegaPrimality)) none (subst (λ a. Asked r (early_of (of_semigroup_and_integer (apery_table ∷ []) all (element_row OmegaPrimality))) a new) same asked)
