use Rattle.std.proofs.Common.{◌≡◌, Some, None, subst, [], ◌∷◌}
use Rattle.sg_value.specs.Known.{named}
use Rattle.sg_value.specs.Plain.{plain_of_all}
use Rattle.sg_rows.specs.Asks.{apery_table}
use Rattle.sg_rows.specs.Forms.{of_semigroup_and_integer}
use Rattle.sg_rows.specs.Kinds.{as_semigroup, one}
use Rattle.sg_rows.specs.Replies.{Replies}
use Rattle.sg_rows_invariants.specs.Facts.{apery_modulo_row, table_row}
use Rattle.sg_rows_invariants.specs.declared.fact.TableFact.TheVariants as table
use Rattle.sg_calls.specs.After.{Asked}
use Rattle.sg_calls.specs.Early.{early_of}
use Rattle.sg_calls.proofs.EarlyLemmas.{asked_other, none_asked}
use Rattle.sg_calls.proofs.Fitting.{found_none, other_fitted}
use Rattle.sg_calls.proofs.families.of_apery.Goals as goal

pub returns-in-None-clause-reply : goal.returns-in-None-clause-reply
returns-in-None-clause-reply c =
    let args = c.args.args.now in
    let all = plain_of_all (named c.args.store.now.ids) args in
    let sole = one as_semigroup all in
    let r = c.of_table_and_integer.result in
    let store = c.of_table_and_integer.new.store.ids in
    let none = found_none (sole ≡ None) (λ t. sole ≡ Some t.value) c.in_ok-table.field-0 c.in_ok-table.ensures.table c.in-None.is in
    let reply = subst (λ s. Replies r store (of_semigroup_and_integer (apery_table ∷ []) (plain_of_all (named s) args) apery_modulo_row)) c.one_table.ensures.ids c.of_table_and_integer.ensures.reply in
    other_fitted sole _ (table_row table.AperyList) store r (of_semigroup_and_integer (apery_table ∷ []) all apery_modulo_row) none reply

pub returns-in-None-clause-asked : goal.returns-in-None-clause-asked
returns-in-None-clause-asked c =
    let args = c.args.args.now in
    let all = plain_of_all (named c.args.store.now.ids) args in
    let sole = one as_semigroup all in
    let r = c.of_table_and_integer.result in
    let old = c.args.store.now.attributes in
    let new = c.of_table_and_integer.new.store.attributes in
    let none = found_none (sole ≡ None) (λ t. sole ≡ Some t.value) c.in_ok-table.field-0 c.in_ok-table.ensures.table c.in-None.is in
    let same = none_asked (apery_table ∷ []) sole (λ G. G ∷ []) old c.one_table.new.store.attributes none c.in_ok-table.ensures.asked in
    let asked = subst (λ s. Asked r (early_of (of_semigroup_and_integer (apery_table ∷ []) (plain_of_all (named s) args) apery_modulo_row)) c.one_table.new.store.attributes new) c.one_table.ensures.ids c.of_table_and_integer.ensures.asked in
    asked_other sole _ (table_row table.AperyList) r old new (of_semigroup_and_integer (apery_table ∷ []) all apery_modulo_row) none (subst (λ a. Asked r (early_of (of_semigroup_and_integer (apery_table ∷ []) all apery_modulo_row)) a new) same asked)
