use Rattle.std.proofs.Common.{[], ◌∷◌, ap, sym, ◌∙◌}
use Rattle.std.specs.Option.{option_map}
use Rattle.sg_value.specs.Data.{semigroups}
use Rattle.sg_value.specs.Known.{named}
use Rattle.sg_value.specs.Plain.{contents_of_all, plain_of_all, thing_at}
use Rattle.sg_rows.specs.Asks.{apery_table, asked_of}
use Rattle.sg_rows.specs.Kinds.{as_semigroup, one}
use Rattle.sg_rows.proofs.KindLemmas.{one_semigroup-plain}
use Rattle.sg_rows_factorizations.specs.Commands as factorizations
use Rattle.sg_rows_factorizations.specs.declared.command.FactorizationCommand.TheVariants.{OfElement}
use Rattle.sg_rows_factorizations.specs.declared.element.ElementFact.TheVariants as element
use Rattle.sg_rows_presentations.specs.Rows.{presentation_row}
use Rattle.sg_rows_presentations.specs.declared.fact.PresentationFact.TheVariants.{CatenaryDegree}
use Rattle.sg_calls.proofs.Asking.{semigroup-none}
use Rattle.sg_calls.proofs.EarlyLemmas.{all_asked, asks_first, asks_other}
use Rattle.sg_calls.proofs.Fitting.{first_case, other_fitted}
use Rattle.sg_calls.proofs.NoLate.{factorizations_late}
use Rattle.sg_calls.proofs.calls.of_catenary_degree.Goals as goal

pub returns-in-Some-clause-reply : goal.returns-in-Some-clause-reply
returns-in-Some-clause-reply c =
    let names = named c.args.store.now.ids in
    let args = c.args.args.now in
    let all = plain_of_all names args in
    let found = one_semigroup-plain (thing_at names) (contents_of_all args) ∙ ap (option_map (thing_at names semigroups)) (sym c.one_semigroup.ensures ∙ c.in-Some.is) in
    first_case (one as_semigroup all) (λ G. asked_of (apery_table ∷ []) (G ∷ [])) (presentation_row CatenaryDegree) c.on_presentations.new.store.ids _ c.on_presentations.result
    (factorizations.case_of (OfElement element.CatenaryDegree) all) found c.on_presentations.ensures.reply

pub returns-in-Some-clause-asks : goal.returns-in-Some-clause-asks
returns-in-Some-clause-asks c =
    let names = named c.args.store.now.ids in
    let args = c.args.args.now in
    let all = plain_of_all names args in
    let found = one_semigroup-plain (thing_at names) (contents_of_all args) ∙ ap (option_map (thing_at names semigroups)) (sym c.one_semigroup.ensures ∙ c.in-Some.is) in
    asks_first (one as_semigroup all) (λ G. asked_of (apery_table ∷ []) (G ∷ [])) (presentation_row CatenaryDegree) c.on_presentations.result c.args.store.now.attributes c.on_presentations.new.store.attributes _
    (factorizations.case_of (OfElement element.CatenaryDegree) all) found c.on_presentations.ensures.asks

pub returns-in-None-clause-reply : goal.returns-in-None-clause-reply
returns-in-None-clause-reply c =
    let ids = c.args.store.now.ids in
    let args = c.args.args.now in
    let all = plain_of_all (named ids) args in
    let none = semigroup-none ids args (sym c.one_semigroup.ensures ∙ c.in-None.is) in
    other_fitted (one as_semigroup all) (λ G. asked_of (apery_table ∷ []) (G ∷ [])) (presentation_row CatenaryDegree) c.on_factorizations.new.store.ids c.on_factorizations.result
    (factorizations.case_of (OfElement element.CatenaryDegree) all) none c.on_factorizations.ensures.reply

pub returns-in-None-clause-asks : goal.returns-in-None-clause-asks
returns-in-None-clause-asks c =
    let ids = c.args.store.now.ids in
    let args = c.args.args.now in
    let all = plain_of_all (named ids) args in
    let r = c.on_factorizations.result in
    let old = c.args.store.now.attributes in
    let new = c.on_factorizations.new.store.attributes in
    let rest = factorizations.case_of (OfElement element.CatenaryDegree) all in
    let none = semigroup-none ids args (sym c.one_semigroup.ensures ∙ c.in-None.is) in
    asks_other (one as_semigroup all) (λ G. asked_of (apery_table ∷ []) (G ∷ [])) (presentation_row CatenaryDegree) r old new rest none
    (all_asked r c.on_factorizations.new.store.ids rest old new (factorizations_late (OfElement element.CatenaryDegree) all) c.on_factorizations.ensures.reply c.on_factorizations.ensures.asked)
