use Rattle.std.proofs.Common.{◌≡◌, Some, None, sym, ◌∙◌, rules, subst, [], ◌∷◌}
use Rattle.sg_value.specs.Known.{named}
use Rattle.sg_value.specs.Plain.{plain, plain_of_all}
use Rattle.sg_rows.specs.Asks.{apery_table, asked_of}
use Rattle.sg_rows.specs.Kinds.{two, two_ideals}
use Rattle.sg_rows.proofs.KindLemmas.{two_at, two_plain-none}
use Rattle.sg_rows_ideals.specs.Rows.{pair_row}
use Rattle.sg_calls.specs.Early.{AsksFor}
use Rattle.sg_calls.proofs.EarlyLemmas.{asked_fitted, asked_unfit}
use Rattle.sg_calls.proofs.Fitting.{fitted_told, found_some, kept_from, pair_told, unfitted}
use Rattle.sg_calls.proofs.families.of_pair.Goals as goal

pub returns-then-args-ne2-clause-reply : goal.returns-then-args-ne2-clause-reply
returns-then-args-ne2-clause-reply c =
    let names = named c.args.store.now.ids in
    unfitted (two two_ideals (plain_of_all names c.args.args.now)) _ (λ p. pair_row c.args.pair p.0 p.1) c.args.store.now.ids (two_plain-none names two_ideals c.args.args.now c.if-args-ne2.true)

pub returns-then-args-ne2-clause-asked : goal.returns-then-args-ne2-clause-asked
returns-then-args-ne2-clause-asked c =
    let names = named c.args.store.now.ids in
    asked_unfit (two two_ideals (plain_of_all names c.args.args.now)) _ (λ p. pair_row c.args.pair p.0 p.1) c.args.store.now.attributes (two_plain-none names two_ideals c.args.args.now c.if-args-ne2.true)

pub returns-clause-reply : goal.returns-clause-reply
returns-clause-reply c =
    let names = named c.args.store.now.ids in
    let args = c.args.args.now in
    let a = c.index-args-0.result in
    let b = c.index-args-1.result in
    let I = c.in-Some.one in
    let J = c.in-Some.other in
    let row = pair_row c.args.pair in
    let both = two_ideals (plain names a) (plain names b) in
    let seen = found_some (both ≡ None) (λ p. (both ≡ Some (p.0.1, p.1.1)) × (p.0.1.ambient ≡ p.0.0.value)) c.in_ok-table.field-0 c.in_ok-table.ensures.both _ c.in-Some.is in
    let found = sym (two_at names two_ideals args a b c.if-args-ne2.false c.index-args-0.is c.index-args-1.is) ∙ seen.0 in
    fitted_told (two two_ideals (plain_of_all names args)) _ (λ p. row p.0 p.1) c.deliver.new.ids (I, J) c.pair_of.result c.deliver.result found c.deliver.ensures.delivered
    (pair_told row c.pair_of.result _ _ I J c.pair_of.ensures (search rules) (search rules))

pub returns-clause-keeps : goal.returns-clause-keeps
returns-clause-keeps c = kept_from c.args.store.now.ids c.two_ideals.new.store.ids c.deliver.new.ids c.two_ideals.ensures.ids c.deliver.ensures.keeps

pub returns-clause-asked : goal.returns-clause-asked
returns-clause-asked c =
    let names = named c.args.store.now.ids in
    let args = c.args.args.now in
    let old = c.args.store.now.attributes in
    let new = c.two_ideals.new.store.attributes in
    let same = two_at names two_ideals args c.index-args-0.result c.index-args-1.result c.if-args-ne2.false c.index-args-0.is c.index-args-1.is in
    asked_fitted (two two_ideals (plain_of_all names args)) (λ p. asked_of (apery_table ∷ []) (p.0.ambient ∷ p.1.ambient ∷ [])) (λ p. pair_row c.args.pair p.0 p.1) c.deliver.result old new
    (subst (λ o. AsksFor (apery_table ∷ []) o (λ p. p.0.ambient ∷ p.1.ambient ∷ []) old new) same c.in_ok-table.ensures.asked)
