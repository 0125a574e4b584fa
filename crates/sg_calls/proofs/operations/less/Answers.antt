use Rattle.std.proofs.Common.{◌≡◌, Some, None, sym, ◌∙◌, rules, [], ◌∷◌}
use Rattle.sg_value.specs.Known.{named}
use Rattle.sg_value.specs.Plain.{contents, plain, thing_at}
use Rattle.sg_rows.specs.Asks.{apery_table}
use Rattle.sg_rows.specs.Forms.{on_two_ideals}
use Rattle.sg_rows.specs.Kinds.{two_ideals, two_integers}
use Rattle.sg_rows.proofs.KindLemmas.{two_integers-plain}
use Rattle.sg_rows_ideals.specs.Rows.{pair_row}
use Rattle.sg_rows_ideals.specs.declared.pairs.Pair.TheVariants.{Difference}
use Rattle.sg_calls.specs.Operations.{calculation}
use Rattle.sg_calls.specs.declared.operator.Operator.TheVariants.{Less}
use Rattle.sg_calls.proofs.Fitting.{fitted_told, found_some, kept_from, other_given, pair_told}
use Rattle.sg_calls.proofs.operations.less.Goals as goal

pub returns-clause-reply : goal.returns-clause-reply
returns-clause-reply c =
    let names = named c.args.store.now.ids in
    let a = plain names c.args.a.now in
    let b = plain names c.args.b.now in
    let none : two_integers a b ≡ None = two_integers-plain (thing_at names) (contents c.args.a.now) (contents c.args.b.now) ∙ sym c.in_default.ensures in
    let found = found_some (two_ideals a b ≡ None) (λ p. (two_ideals a b ≡ Some (p.0.1, p.1.1)) × (p.0.1.ambient ≡ p.0.0.value)) c.in_ok-table.field-0 c.in_ok-table.ensures.both _ c.in-Some-2.is in
    other_given (two_integers a b) (λ p. calculation Less p.0 p.1) c.deliver.new.ids c.deliver.result (on_two_ideals (apery_table ∷ []) a b (pair_row Difference)) none
    (fitted_told (two_ideals a b) _ (λ p. pair_row Difference p.0 p.1) c.deliver.new.ids _ c.pair_of.result c.deliver.result found.0 c.deliver.ensures.delivered (pair_told (pair_row Difference) c.pair_of.result _ _ c.in-Some-2.one c.in-Some-2.other c.pair_of.ensures (search rules) (search rules)))

pub returns-clause-keeps : goal.returns-clause-keeps
returns-clause-keeps c = kept_from c.args.store.now.ids c.two_ideals.new.store.ids c.deliver.new.ids c.two_ideals.ensures.ids c.deliver.ensures.keeps
