use Rattle.std.proofs.Common.{◌≡◌, ◌↔◌, IsTrue, Some, None, Ok, refl, ap, ◌∙◌, subst, rules, [], ◌∷◌}
use Rattle.std.specs.Int.{w64}
use Rattle.std.specs.Prelude.{FitsSigned, MatchOption}
use Rattle.std.specs.Option.{option_map}
use Rattle.sg_defs.specs.Membership.{IsIntegerMember}
use Rattle.sg_value.specs.Data.{items_map}
use Rattle.sg_value.specs.Known.{named}
use Rattle.sg_value.specs.Plain.{plain, plain_of_all, contents, thing_at}
use Rattle.sg_value.specs.declared.value.Value.TheVariants as value
use Rattle.sg_rows.specs.Asks.{apery_table}
use Rattle.sg_rows.specs.Alternatives.{or_else}
use Rattle.sg_rows.specs.Entries.{IsEntry}
use Rattle.sg_rows.specs.Forms.{on_integer_and_ideal, on_integer_and_semigroup}
use Rattle.sg_rows.specs.Kinds.{as_list, integer_then_semigroup}
use Rattle.sg_rows.specs.Values.{answers, whether}
use Rattle.sg_rows.proofs.KindLemmas.{as_list-plain}
use Rattle.sg_rows.proofs.Replying.{replies_truth}
use Rattle.sg_rows.proofs.Signed.{of_bits_right}
use Rattle.sg_rows_ideals.specs.Rows.{member_row}
use Rattle.sg_calls.proofs.Fitting.{first_fitted, other_fitted}
use Rattle.sg_calls.proofs.membership.member.Goals as goal

pub returns-in-Some-clause-reply : goal.returns-in-Some-clause-reply
returns-in-Some-clause-reply c =
    let store = c.args.store.now.ids in
    let names = named store in
    let a = plain names c.args.v.now in
    let b = plain names c.args.whole.now in
    let held = plain_of_all names c.in-Some.entries.now in
    let seen = as_list-plain (thing_at names) (contents c.args.whole.now) ∙ ap (option_map (items_map (thing_at names))) c.in-Some.ensures in
    first_fitted (as_list b) _ (λ ds. answers (whether (IsEntry a ds))) store held (Ok (value.Bool c.is_among.result)) _ seen (replies_truth store c.is_among.result (value.Bool c.is_among.result) (IsEntry a held) refl c.is_among.ensures)

pub returns-in-Some-2-clause-reply : goal.returns-in-Some-2-clause-reply
returns-in-Some-2-clause-reply c =
    let store = c.args.store.now.ids in
    let names = named store in
    let a = plain names c.args.v.now in
    let b = plain names c.args.whole.now in
    let x = c.in-Some-2.x in
    let G = c.in-Some-2.table.value in
    let yes = c.contains.result in
    let fit : FitsSigned w64 x = search rules in
    let no_list = as_list-plain (thing_at names) (contents c.args.whole.now) ∙ ap (option_map (items_map (thing_at names))) c.in_default.ensures in
    let found : integer_then_semigroup a b ≡ Some (x, G) =
    subst (λ o. MatchOption o (integer_then_semigroup a b ≡ None) (λ p. integer_then_semigroup a b ≡ Some (p.0, p.1.value))) c.in-Some-2.is c.in_ok-x.ensures.both
    in
    let tells = of_bits_right (λ z. IsTrue yes ↔ IsIntegerMember c.deref.result.now z) x fit c.contains.ensures in
    other_fitted (as_list b) _ (λ ds. answers (whether (IsEntry a ds))) store (Ok (value.Bool yes)) (or_else (on_integer_and_semigroup (apery_table ∷ []) a b (λ z H. answers (whether (IsIntegerMember H z)))) (on_integer_and_ideal (apery_table ∷ []) a b member_row)) no_list
    (first_fitted (integer_then_semigroup a b) _ (λ p. answers (whether (IsIntegerMember p.1 p.0))) store (x, G) (Ok (value.Bool yes)) (on_integer_and_ideal (apery_table ∷ []) a b member_row) found
    (replies_truth store yes (value.Bool yes) (IsIntegerMember G x) refl (subst (λ H. IsTrue yes ↔ IsIntegerMember H x) c.deref.ensures tells)))
