use Rattle.std.proofs.Common.{◌≡◌, ℕ, List, [], ◌∷◌, ◌++◌, Err, unwrap_or, ap, sym, ◌∙◌, subst}
use Rattle.sg_value.specs.Known.{Known, named}
use Rattle.sg_value.specs.Plain.{plain_of_all}
use Rattle.sg_store.specs.Attributes.{presentation_answered, table_answered}
use Rattle.sg_store.specs.Held.{list_at}
use Rattle.sg_rows.specs.Asks.{Asking, apery_table, asked_of}
use Rattle.sg_rows.specs.Kinds.{as_semigroup, one}
use Rattle.sg_rows.specs.Made.{Tells}
use Rattle.sg_rows.specs.Order.{Bars, Passes}
use Rattle.sg_rows.specs.declared.fault.CallFault.TheVariants.{Script}
use Rattle.sg_rows.proofs.AskLemmas.{admitted}
use Rattle.sg_rows_presentations.specs.Rows.{presentation_row}
use Rattle.sg_rows_presentations.proofs.Telling.{late-is}
use Rattle.sg_calls.specs.After.{after_asked}
use Rattle.sg_calls.proofs.Asking.{semigroup-some}
use Rattle.sg_calls.proofs.EarlyLemmas.{asks_passed, asks_refused}
use Rattle.sg_calls.proofs.Fitting.{fitted_told}
use Rattle.sg_calls.proofs.presentations.of_presentation.Goals as goal

-- what is asked for at once
abbrev table_first : List ℕ → List Asking
table_first G = asked_of (apery_table ∷ []) (G ∷ [])

pub returns-in-Err-clause-asks : goal.returns-in-Err-clause-asks
returns-in-Err-clause-asks c =
    let ids = c.args.store.now.ids in
    let args = c.args.args.now in
    let old = c.args.store.now.attributes in
    let G = c.in_ok-table.table.value in
    let row = presentation_row c.args.fact in
    let at = c.in_ok-table.ensures.table in
    let found = semigroup-some ids args c.in-Some.id G (sym c.one_semigroup.ensures ∙ c.in-Some.is) at in
    asks_refused (one as_semigroup (plain_of_all (named ids) args)) table_first row (Err (Script c.in-Err.fault)) old c.table.new.self.attributes G found
    (subst (λ H. Bars (row H)) c.deref.ensures c.in-Err.ensures.0) (c.in_ok-table.ensures.ok ∙ ap (λ o. table_answered (unwrap_or o []) old) at)

pub returns-clause-reply : goal.returns-clause-reply
returns-clause-reply c =
    let ids = c.args.store.now.ids in
    let args = c.args.args.now in
    let G = c.in_ok-table.table.value in
    let row = presentation_row c.args.fact in
    let found = semigroup-some ids args c.in-Some.id G (sym c.one_semigroup.ensures ∙ c.in-Some.is) c.in_ok-table.ensures.table in
    fitted_told (one as_semigroup (plain_of_all (named ids) args)) table_first row c.deliver.new.ids G c.tell.result c.deliver.result found c.deliver.ensures.delivered
    (subst (λ H. Tells c.tell.result (row H)) c.deref-2.ensures c.tell.ensures)

pub returns-clause-asks : goal.returns-clause-asks
returns-clause-asks c =
    let ids = c.args.store.now.ids in
    let args = c.args.args.now in
    let id = c.in-Some.id in
    let old = c.args.store.now.attributes in
    let then = c.table.new.self.attributes in
    let G = c.in_ok-table.table.value in
    let row = presentation_row c.args.fact in
    let at = c.in_ok-table.ensures.table in
    let found = semigroup-some ids args id G (sym c.one_semigroup.ensures ∙ c.in-Some.is) at in
    let first : then ≡ table_answered G old = c.in_ok-table.ensures.ok ∙ ap (λ o. table_answered (unwrap_or o []) old) at in
    let here : presentation_answered (list_at c.table.new.self.ids.semigroups id) then ≡ presentation_answered G then =
    ap (λ (s : Known). presentation_answered (list_at s.semigroups id) then) c.table.ensures.ids ∙ ap (λ o. presentation_answered (unwrap_or o []) then) at in
    asks_passed (one as_semigroup (plain_of_all (named ids) args)) table_first row c.deliver.result old c.presentation.new.self.attributes G found
    (admitted (row G) (subst (λ H. Passes (row H)) c.deref.ensures c.in_default-check.ensures))
    (c.in_ok-relations.ensures.ok ∙ (here ∙ (ap (presentation_answered G) first ∙ sym (ap (λ l. after_asked (table_first G ++ l) old) (late-is c.args.fact G)))))
