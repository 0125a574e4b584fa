use Rattle.std.proofs.Common.{[], ◌∷◌, refl, sym, subst}
use Rattle.sg_value.specs.Known.{named}
use Rattle.sg_value.specs.Plain.{plain_of_all}
use Rattle.sg_rows.specs.Kinds.{as_semigroup, one}
use Rattle.sg_rows_presentations.specs.Commands as presentations
use Rattle.sg_rows_presentations.specs.Rows.{least_delta_row}
use Rattle.sg_rows_presentations.specs.declared.command.PresentationCommand.TheVariants.{LeastDelta}
use Rattle.sg_calls.specs.After.{Asks}
use Rattle.sg_calls.proofs.EarlyLemmas.{all_asked, asked_none, early_no_letters, late_fitted}
use Rattle.sg_calls.proofs.presentations.on_presentations.Goals as goal

pub returns-in-LeastDelta-clause-asks : goal.returns-in-LeastDelta-clause-asks
returns-in-LeastDelta-clause-asks c =
    let args = plain_of_all (named c.args.store.now.ids) c.args.args.now in
    let sole = one as_semigroup args in
    let case = presentations.case_of LeastDelta args in
    let r = c.of_generators.result in
    let a = c.args.store.now.attributes in
    subst (λ k. Asks r (presentations.case_of k args) a a) (sym c.in-LeastDelta.is)
    (all_asked r c.of_generators.new.ids case a a (late_fitted sole _ least_delta_row (λ G. refl)) c.of_generators.ensures.reply (asked_none r case a (early_no_letters sole (λ G. G ∷ []) least_delta_row)))
