use Rattle.std.proofs.Common.{sym, subst}
use Rattle.sg_value.specs.Known.{named}
use Rattle.sg_value.specs.Plain.{plain_of_all}
use Rattle.sg_calls.specs.After.{Asks}
use Rattle.sg_calls.specs.Rows.{shared_case}
use Rattle.sg_calls.specs.declared.command.Shared.TheVariants.{Intersection, MinimalGenerators}
use Rattle.sg_calls.proofs.EarlyLemmas.{all_asked}
use Rattle.sg_calls.proofs.NoLate.{intersection_late, minimal_generators_late}
use Rattle.sg_calls.proofs.calls.on_shared.Goals as goal

pub returns-in-Intersection-clause-asks : goal.returns-in-Intersection-clause-asks
returns-in-Intersection-clause-asks c =
    let args = plain_of_all (named c.args.store.now.ids) c.args.args.now in
    let r = c.of_intersection.result in
    subst (λ k. Asks r (shared_case k args) c.args.store.now.attributes c.of_intersection.new.store.attributes) (sym c.in-Intersection.is)
    (all_asked r c.of_intersection.new.store.ids (shared_case Intersection args) _ _ (intersection_late args) c.of_intersection.ensures.reply c.of_intersection.ensures.asked)

pub returns-in-MinimalGenerators-clause-asks : goal.returns-in-MinimalGenerators-clause-asks
returns-in-MinimalGenerators-clause-asks c =
    let args = plain_of_all (named c.args.store.now.ids) c.args.args.now in
    let r = c.of_minimal_generators.result in
    subst (λ k. Asks r (shared_case k args) c.args.store.now.attributes c.of_minimal_generators.new.store.attributes) (sym c.in-MinimalGenerators.is)
    (all_asked r c.of_minimal_generators.new.store.ids (shared_case MinimalGenerators args) _ _ (minimal_generators_late args) c.of_minimal_generators.ensures.reply c.of_minimal_generators.ensures.asked)
