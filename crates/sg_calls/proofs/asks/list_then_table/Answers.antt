use Rattle.std.proofs.Common.{sym, ◌∙◌, refl, ap, unwrap_or, [], ◌∷◌}
use Rattle.sg_rows.specs.Asks.{apery_table}
use Rattle.sg_store.specs.Attributes.{table_answered}
use Rattle.sg_calls.specs.Asked.{the_list_and_semigroup}
use Rattle.sg_calls.proofs.EarlyLemmas.{asks_none, asks_some}
use Rattle.sg_calls.proofs.Asking.{list_and_semigroup-none, list_and_semigroup-some}
use Rattle.sg_calls.proofs.asks.list_then_table.Goals as goal

pub returns-in_ok-table-in-Some-clause-both : goal.returns-in_ok-table-in-Some-clause-both
returns-in_ok-table-in-Some-clause-both c =
    list_and_semigroup-some c.args.store.now.ids c.args.a.now c.args.b.now c.in-Some.zs c.in-Some.id c.in_ok-table-in-Some.field-0.value (sym c.in_ok-zs.ensures ∙ c.in-Some.is) c.in_ok-table-in-Some.ensures.table

pub returns-in-None-clause-both : goal.returns-in-None-clause-both
returns-in-None-clause-both c = list_and_semigroup-none c.args.store.now.ids c.args.a.now c.args.b.now (sym c.in_ok-zs.ensures ∙ c.in-None.is)

pub returns-in_ok-table-in-Some-clause-asked : goal.returns-in_ok-table-in-Some-clause-asked
returns-in_ok-table-in-Some-clause-asked c =
    let ids = c.args.store.now.ids in
    let old = c.args.store.now.attributes in
    let zs = c.in-Some.zs in
    let G = c.in_ok-table-in-Some.field-0.value in
    let at = c.in_ok-table-in-Some.ensures.table in
    let found = list_and_semigroup-some ids c.args.a.now c.args.b.now zs c.in-Some.id G (sym c.in_ok-zs.ensures ∙ c.in-Some.is) at in
    asks_some (apery_table ∷ []) (the_list_and_semigroup ids c.args.a.now c.args.b.now) (λ p. p.1 ∷ []) old c.table.new.self.attributes (zs, G) found (c.in_ok-table-in-Some.ensures.ok ∙ ap (λ o. table_answered (unwrap_or o []) old) at)

pub returns-in-None-clause-asked : goal.returns-in-None-clause-asked
returns-in-None-clause-asked c =
    let ids = c.args.store.now.ids in
    let old = c.args.store.now.attributes in
    asks_none (apery_table ∷ []) (the_list_and_semigroup ids c.args.a.now c.args.b.now) (λ p. p.1 ∷ []) old old (list_and_semigroup-none ids c.args.a.now c.args.b.now (sym c.in_ok-zs.ensures ∙ c.in-None.is)) refl
