use Rattle.std.proofs.Common.{◌≡◌, Some, None, sym, ◌∙◌, subst, rules, [], ◌∷◌}
use Rattle.sg_value.specs.Known.{named}
use Rattle.sg_value.specs.Plain.{contents, plain, thing_at}
use Rattle.sg_rows.specs.Asks.{apery_table, asked_of}
use Rattle.sg_rows.specs.Alternatives.{or_else}
use Rattle.sg_rows.specs.Forms.{on_two_ideals}
use Rattle.sg_rows.specs.Kinds.{two_ideals, two_integers}
use Rattle.sg_rows.specs.Replies.{Replies}
use Rattle.sg_rows.proofs.KindLemmas.{two_integers-plain}
use Rattle.sg_rows_ideals.specs.Rows.{pair_row}
use Rattle.sg_rows_ideals.specs.declared.pairs.Pair.TheVariants.{Sum}
use Rattle.sg_calls.specs.Operations.{calculation, moved_or_generated}
use Rattle.sg_calls.specs.declared.operator.Operator.TheVariants.{Plus}
use Rattle.sg_calls.specs.After.{Asked}
use Rattle.sg_calls.specs.Early.{early_of}
use Rattle.sg_calls.proofs.EarlyLemmas.{asked_first, asked_not_given, asked_other, none_asked}
use Rattle.sg_calls.proofs.Fitting.{first_told, found_none, found_some, kept_from, other_fitted, other_given, pair_told}
use Rattle.sg_calls.proofs.operations.plus.Goals as goal

pub returns-in-Some-2-clause-reply : goal.returns-in-Some-2-clause-reply
returns-in-Some-2-clause-reply c =
    let names = named c.args.store.now.ids in
    let a = plain names c.args.a.now in
    let b = plain names c.args.b.now in
    let none : two_integers a b ≡ None = two_integers-plain (thing_at names) (contents c.args.a.now) (contents c.args.b.now) ∙ sym c.in_default.ensures in
    let found = found_some (two_ideals a b ≡ None) (λ p. (two_ideals a b ≡ Some (p.0.1, p.1.1)) × (p.0.1.ambient ≡ p.0.0.value)) c.in_ok-table.field-0 c.in_ok-table.ensures.both _ c.in-Some-2.is in
    other_given (two_integers a b) (λ p. calculation Plus p.0 p.1) c.deliver.new.ids c.deliver.result (or_else (on_two_ideals (apery_table ∷ []) a b (pair_row Sum)) (moved_or_generated a b)) none
    (first_told (two_ideals a b) _ (λ p. pair_row Sum p.0 p.1) c.deliver.new.ids _ c.pair_of.result c.deliver.result (moved_or_generated a b) found.0 c.deliver.ensures.delivered
    (pair_told (pair_row Sum) c.pair_of.result _ _ c.in-Some-2.one c.in-Some-2.other c.pair_of.ensures (search rules) (search rules)))

pub returns-in-Some-2-clause-keeps : goal.returns-in-Some-2-clause-keeps
returns-in-Some-2-clause-keeps c = kept_from c.args.store.now.ids c.two_ideals.new.store.ids c.deliver.new.ids c.two_ideals.ensures.ids c.deliver.ensures.keeps

pub returns-clause-reply : goal.returns-clause-reply
returns-clause-reply c =
    let names = named c.args.store.now.ids in
    let a = plain names c.args.a.now in
    let b = plain names c.args.b.now in
    let r = c.on_ideal_or_list.result in
    let store = c.on_ideal_or_list.new.store.ids in
    let none : two_integers a b ≡ None = two_integers-plain (thing_at names) (contents c.args.a.now) (contents c.args.b.now) ∙ sym c.in_default.ensures in
    let no_ideals = found_none (two_ideals a b ≡ None) (λ p. (two_ideals a b ≡ Some (p.0.1, p.1.1)) × (p.0.1.ambient ≡ p.0.0.value)) c.in_ok-table.field-0 c.in_ok-table.ensures.both c.in-None.is in
    let reply = subst (λ s. Replies r store (moved_or_generated (plain (named s) c.args.a.now) (plain (named s) c.args.b.now))) c.two_ideals.ensures.ids c.on_ideal_or_list.ensures.reply in
    other_given (two_integers a b) (λ p. calculation Plus p.0 p.1) store r (or_else (on_two_ideals (apery_table ∷ []) a b (pair_row Sum)) (moved_or_generated a b)) none
    (other_fitted (two_ideals a b) _ (λ p. pair_row Sum p.0 p.1) store r (moved_or_generated a b) no_ideals reply)

pub returns-in-Some-2-clause-asked : goal.returns-in-Some-2-clause-asked
returns-in-Some-2-clause-asked c =
    let names = named c.args.store.now.ids in
    let a = plain names c.args.a.now in
    let b = plain names c.args.b.now in
    let r = c.deliver.result in
    let old = c.args.store.now.attributes in
    let new = c.two_ideals.new.store.attributes in
    let none : two_integers a b ≡ None = two_integers-plain (thing_at names) (contents c.args.a.now) (contents c.args.b.now) ∙ sym c.in_default.ensures in
    let found = found_some (two_ideals a b ≡ None) (λ p. (two_ideals a b ≡ Some (p.0.1, p.1.1)) × (p.0.1.ambient ≡ p.0.0.value)) c.in_ok-table.field-0 c.in_ok-table.ensures.both _ c.in-Some-2.is in
    asked_not_given (two_integers a b) (λ p. calculation Plus p.0 p.1) r old new (or_else (on_two_ideals (apery_table ∷ []) a b (pair_row Sum)) (moved_or_generated a b)) none
    (asked_first (two_ideals a b) (λ p. asked_of (apery_table ∷ []) (p.0.ambient ∷ p.1.ambient ∷ [])) (λ p. pair_row Sum p.0 p.1) r old new _ (moved_or_generated a b) found.0 c.in_ok-table.ensures.asked)

pub returns-clause-asked : goal.returns-clause-asked
returns-clause-asked c =
    let names = named c.args.store.now.ids in
    let a = plain names c.args.a.now in
    let b = plain names c.args.b.now in
    let r = c.on_ideal_or_list.result in
    let old = c.args.store.now.attributes in
    let mid = c.two_ideals.new.store.attributes in
    let new = c.on_ideal_or_list.new.store.attributes in
    let none : two_integers a b ≡ None = two_integers-plain (thing_at names) (contents c.args.a.now) (contents c.args.b.now) ∙ sym c.in_default.ensures in
    let no_ideals = found_none (two_ideals a b ≡ None) (λ p. (two_ideals a b ≡ Some (p.0.1, p.1.1)) × (p.0.1.ambient ≡ p.0.0.value)) c.in_ok-table.field-0 c.in_ok-table.ensures.both c.in-None.is in
    let same = none_asked (apery_table ∷ []) (two_ideals a b) (λ p. p.0.ambient ∷ p.1.ambient ∷ []) old mid no_ideals c.in_ok-table.ensures.asked in
    let later = subst (λ s. Asked r (early_of (moved_or_generated (plain (named s) c.args.a.now) (plain (named s) c.args.b.now))) mid new) c.two_ideals.ensures.ids c.on_ideal_or_list.ensures.asked in
    asked_not_given (two_integers a b) (λ p. calculation Plus p.0 p.1) r old new (or_else (on_two_ideals (apery_table ∷ []) a b (pair_row Sum)) (moved_or_generated a b)) none
    (asked_other (two_ideals a b) (λ p. asked_of (apery_table ∷ []) (p.0.ambient ∷ p.1.ambient ∷ [])) (λ p. pair_row Sum p.0 p.1) r old new (moved_or_generated a b) no_ideals (subst (λ x. Asked r (early_of (moved_or_generated a b)) x new) same later))
