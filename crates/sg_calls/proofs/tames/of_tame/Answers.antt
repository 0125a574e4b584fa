use Rattle.std.proofs.Common.{◌≡◌, ℕ, List, [], ◌∷◌, ◌++◌, Err, Some, slice_get, unwrap_or, ap, sym, ◌∙◌, subst}
use Rattle.sg_value.specs.Known.{Known, named}
use Rattle.sg_value.specs.Plain.{plain_of_all}
use Rattle.sg_store.specs.Attributes.{tame_answered, table_answered}
use Rattle.sg_store.specs.Held.{list_at}
use Rattle.sg_classes.specs.Fit.{IsNarrow}
use Rattle.sg_tame.specs.Answers.{IsTameAnswer, IsWithinLimit}
use Rattle.sg_rows.specs.Asks.{Asking, apery_table, asked_of}
use Rattle.sg_rows.specs.Kinds.{as_semigroup, one}
use Rattle.sg_rows.specs.Made.{Tells}
use Rattle.sg_rows.specs.Order.{Bars}
use Rattle.sg_rows.specs.declared.fault.CallFault.TheVariants.{Script}
use Rattle.sg_rows_tame.specs.Rows.{IsTameable, tame_row}
use Rattle.sg_rows_tame.proofs.Telling.{admits}
use Rattle.sg_calls.specs.After.{after_asked}
use Rattle.sg_calls.proofs.Asking.{semigroup-some}
use Rattle.sg_calls.proofs.EarlyLemmas.{asks_passed, asks_refused}
use Rattle.sg_calls.proofs.Fitting.{fitted_told}
use Rattle.sg_calls.proofs.tames.of_tame.Goals as goal

-- what is asked for at once
abbrev table_first : List ℕ → List Asking
table_first G = asked_of (apery_table ∷ []) (G ∷ [])

-- the list that stands at an id is the one that was found there
at-id : (ids then : Known) (id : ℕ) (G : List ℕ) → then ≡ ids → slice_get ids.semigroups id ≡ Some G → list_at then.semigroups id ≡ G
at-id ids then id G same at = ap (λ (s : Known). list_at s.semigroups id) same ∙ ap (λ o. unwrap_or o []) at

pub returns-in-Err-clause-asks : goal.returns-in-Err-clause-asks
returns-in-Err-clause-asks c =
    let ids = c.args.store.now.ids in
    let args = c.args.args.now in
    let old = c.args.store.now.attributes in
    let G = c.in_ok-table.table.value in
    let at = c.in_ok-table.ensures.table in
    let found = semigroup-some ids args c.in-Some.id G (sym c.one_semigroup.ensures ∙ c.in-Some.is) at in
    asks_refused (one as_semigroup (plain_of_all (named ids) args)) table_first tame_row (Err (Script c.in-Err.fault)) old c.table.new.self.attributes G found
    (subst (λ H. Bars (tame_row H)) c.deref.ensures c.in-Err.ensures.0) (c.in_ok-table.ensures.ok ∙ ap (λ o. table_answered (unwrap_or o []) old) at)

pub tame-requires-clause-narrow : goal.tame-requires-clause-narrow
tame-requires-clause-narrow c =
    let G = c.in_ok-table.table.value in
    let here = at-id c.args.store.now.ids c.table.new.self.ids c.in-Some.id G c.table.ensures.ids c.in_ok-table.ensures.table in
    subst IsNarrow (sym here) (subst (λ H. IsTameable H) c.deref.ensures c.in_default-check.ensures).0

pub tame-requires-clause-within : goal.tame-requires-clause-within
tame-requires-clause-within c =
    let G = c.in_ok-table.table.value in
    let here = at-id c.args.store.now.ids c.table.new.self.ids c.in-Some.id G c.table.ensures.ids c.in_ok-table.ensures.table in
    subst IsWithinLimit (sym here) (subst (λ H. IsTameable H) c.deref.ensures c.in_default-check.ensures).1

pub returns-clause-reply : goal.returns-clause-reply
returns-clause-reply c =
    let ids = c.args.store.now.ids in
    let args = c.args.args.now in
    let G = c.in_ok-table.table.value in
    let found = semigroup-some ids args c.in-Some.id G (sym c.one_semigroup.ensures ∙ c.in-Some.is) c.in_ok-table.ensures.table in
    fitted_told (one as_semigroup (plain_of_all (named ids) args)) table_first tame_row c.deliver.new.ids G c.tell.result c.deliver.result found c.deliver.ensures.delivered
    (subst (λ H. Tells c.tell.result (tame_row H)) c.deref-2.ensures c.tell.ensures)

pub returns-clause-asks : goal.returns-clause-asks
returns-clause-asks c =
    let ids = c.args.store.now.ids in
    let args = c.args.args.now in
    let id = c.in-Some.id in
    let old = c.args.store.now.attributes in
    let then = c.table.new.self.attributes in
    let G = c.in_ok-table.table.value in
    let at = c.in_ok-table.ensures.table in
    let found = semigroup-some ids args id G (sym c.one_semigroup.ensures ∙ c.in-Some.is) at in
    let first : then ≡ table_answered G old = c.in_ok-table.ensures.ok ∙ ap (λ o. table_answered (unwrap_or o []) old) at in
    let here : tame_answered (list_at c.table.new.self.ids.semigroups id) then ≡ tame_answered G then =
    ap (λ H. tame_answered H then) (at-id ids c.table.new.self.ids id G c.table.ensures.ids at) in
    asks_passed (one as_semigroup (plain_of_all (named ids) args)) table_first tame_row c.deliver.result old c.tame.new.self.attributes G found
    (admits G (subst (λ H. IsTameable H) c.deref.ensures c.in_default-check.ensures))
    (c.in_ok-answer.ensures.ok ∙ (here ∙ ap (tame_answered G) first))
