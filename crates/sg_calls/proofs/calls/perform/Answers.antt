use Rattle.std.proofs.Common.{sym, subst}
use Rattle.sg_value.specs.Known.{named}
use Rattle.sg_value.specs.Plain.{plain_of_all}
use Rattle.sg_calls.specs.After.{Asks}
use Rattle.sg_calls.specs.Rows.{row}
use Rattle.sg_calls.specs.declared.command.Command.TheVariants as command
use Rattle.sg_calls.proofs.EarlyLemmas.{all_asked, asked_none}
use Rattle.sg_calls.proofs.NoLate.{lists_early, lists_late, makers_late, facts_late, shapes_late, ideals_late, factorizations_late}
use Rattle.sg_calls.proofs.calls.perform.Goals as goal

pub returns-in-Lists-clause-asks : goal.returns-in-Lists-clause-asks
returns-in-Lists-clause-asks c =
    let n = c.args.budget in
    let args = plain_of_all (named c.args.store.now.ids) c.args.args.now in
    let one = command.Lists c.in-Lists.command in
    let r = c.on_lists.result in
    let a = c.args.store.now.attributes in
    subst (λ k. Asks r (row n k args) a a) (sym c.in-Lists.is) (all_asked r c.on_lists.new.ids (row n one args) a a (lists_late c.in-Lists.command args) c.on_lists.ensures.reply (asked_none r (row n one args) a (lists_early c.in-Lists.command args)))

pub returns-in-Makers-clause-asks : goal.returns-in-Makers-clause-asks
returns-in-Makers-clause-asks c =
    let n = c.args.budget in
    let args = plain_of_all (named c.args.store.now.ids) c.args.args.now in
    let one = command.Makers c.in-Makers.maker in
    let r = c.on_makers.result in
    subst (λ k. Asks r (row n k args) c.args.store.now.attributes c.on_makers.new.store.attributes) (sym c.in-Makers.is) (all_asked r c.on_makers.new.store.ids (row n one args) _ _ (makers_late c.in-Makers.maker args) c.on_makers.ensures.reply c.on_makers.ensures.asked)

pub returns-in-Facts-clause-asks : goal.returns-in-Facts-clause-asks
returns-in-Facts-clause-asks c =
    let n = c.args.budget in
    let args = plain_of_all (named c.args.store.now.ids) c.args.args.now in
    let one = command.Facts c.in-Facts.fact in
    let r = c.on_facts.result in
    subst (λ k. Asks r (row n k args) c.args.store.now.attributes c.on_facts.new.store.attributes) (sym c.in-Facts.is) (all_asked r c.on_facts.new.store.ids (row n one args) _ _ (facts_late c.in-Facts.fact args) c.on_facts.ensures.reply c.on_facts.ensures.asked)

pub returns-in-Shapes-clause-asks : goal.returns-in-Shapes-clause-asks
returns-in-Shapes-clause-asks c =
    let n = c.args.budget in
    let args = plain_of_all (named c.args.store.now.ids) c.args.args.now in
    let one = command.Shapes c.in-Shapes.shape in
    let r = c.on_shapes.result in
    subst (λ k. Asks r (row n k args) c.args.store.now.attributes c.on_shapes.new.store.attributes) (sym c.in-Shapes.is) (all_asked r c.on_shapes.new.store.ids (row n one args) _ _ (shapes_late c.in-Shapes.shape args) c.on_shapes.ensures.reply c.on_shapes.ensures.asked)

pub returns-in-Ideals-clause-asks : goal.returns-in-Ideals-clause-asks
returns-in-Ideals-clause-asks c =
    let n = c.args.budget in
    let args = plain_of_all (named c.args.store.now.ids) c.args.args.now in
    let one = command.Ideals c.in-Ideals.command in
    let r = c.on_ideals.result in
    subst (λ k. Asks r (row n k args) c.args.store.now.attributes c.on_ideals.new.store.attributes) (sym c.in-Ideals.is) (all_asked r c.on_ideals.new.store.ids (row n one args) _ _ (ideals_late c.in-Ideals.command args) c.on_ideals.ensures.reply c.on_ideals.ensures.asked)

pub returns-in-Factorizations-clause-asks : goal.returns-in-Factorizations-clause-asks
returns-in-Factorizations-clause-asks c =
    let n = c.args.budget in
    let args = plain_of_all (named c.args.store.now.ids) c.args.args.now in
    let one = command.Factorizations c.in-Factorizations.command in
    let r = c.on_factorizations.result in
    subst (λ k. Asks r (row n k args) c.args.store.now.attributes c.on_factorizations.new.store.attributes) (sym c.in-Factorizations.is) (all_asked r c.on_factorizations.new.store.ids (row n one args) _ _ (factorizations_late c.in-Factorizations.command args) c.on_factorizations.ensures.reply c.on_factorizations.ensures.asked)
