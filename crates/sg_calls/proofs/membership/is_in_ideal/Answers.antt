use Rattle.std.proofs.Common.{◌≡◌, ◌↔◌, ℕ, ℤ, Bool, IsTrue, List, Some, Ok, refl, sym, ◌∙◌, subst, rules, [], ◌∷◌}
use Rattle.std.specs.Prelude.{FitsSigned}
use Rattle.std.specs.Int.{w64}
use Rattle.sg_defs.specs.Ideals.{IsIdealMember}
use Rattle.sg_ideal.specs.Value.{IsIn}
use Rattle.sg_value.specs.Data.{ideals}
use Rattle.sg_value.specs.Known.{Known, named}
use Rattle.sg_value.specs.Plain.{contents, plain, thing_at}
use Rattle.sg_value.specs.declared.value.Value.{Value}
use Rattle.sg_value.specs.declared.value.Value.TheVariants as value
use Rattle.sg_rows.specs.Asks.{apery_table}
use Rattle.sg_rows.specs.Forms.{on_integer_and_ideal}
use Rattle.sg_rows.specs.Kinds.{integer_then_ideal}
use Rattle.sg_rows.specs.Replies.{Replies}
use Rattle.sg_rows.proofs.Replying.{replies_truth}
use Rattle.sg_rows.proofs.Signed.{of_bits_right}
use Rattle.sg_rows_ideals.specs.Rows.{member_row}
use Rattle.sg_calls.proofs.Asking.{integer_and_ideal-some}
use Rattle.sg_calls.proofs.Fitting.{fitted_by}
use Rattle.sg_calls.proofs.membership.is_in_ideal.Goals as goal

-- whether the integer is a member, over the lists of the ideal with this id
member_replies : (store asked : Known) (v whole : Value) (x : ℤ) (id at : ℕ) (G : List ℕ) (I : List ℤ) (b : Bool) → integer_then_ideal (contents v) (contents whole) ≡ Some (x, id) → G ≡ (thing_at (named store) ideals at).ambient
    → asked ≡ store → I ≡ (thing_at (named asked) ideals at).generators → at ≡ id → (IsTrue b ↔ IsIdealMember G I x) → Replies (Ok (value.Bool b)) store (on_integer_and_ideal (apery_table ∷ []) (plain (named store) v) (plain (named store) whole) member_row)
member_replies store asked v whole x id at G I b is same kept also the h =
    let K = thing_at (named store) ideals at in
    let held = subst (λ s. I ≡ (thing_at (named s) ideals at).generators) kept also in
    let found = subst (λ i. integer_then_ideal (contents v) (contents whole) ≡ Some (x, i)) (sym the) is in
    fitted_by (integer_then_ideal (plain (named store) v) (plain (named store) whole)) _ (λ p. member_row p.0 p.1) store (x, K) (Ok (value.Bool b)) (integer_and_ideal-some store v whole x at K found refl)
    (replies_truth store b (value.Bool b) (IsIn K x) refl (subst (λ H. IsTrue b ↔ IsIdealMember H K.generators x) same (subst (λ J. IsTrue b ↔ IsIdealMember G J x) held h)))

pub returns-clause-reply : goal.returns-clause-reply
returns-clause-reply c =
    let store = c.args.store.now.ids in
    let x = c.in-Some.x in
    let b = c.is_member.result in
    let fit : FitsSigned w64 x = search rules in
    member_replies store c.table_of_ideal.new.store.ids c.args.v.now c.args.whole.now x c.in-Some.id _ c.deref.result.now c.as_slice-generators.result.now b (sym c.in-Some.ensures) (c.deref.ensures ∙ c.in_ok-table.ensures.table)
    c.table_of_ideal.ensures.ids (c.as_slice-generators.ensures ∙ c.ideal_generators.ensures.list) (search rules)
    (of_bits_right (λ z. IsTrue b ↔ IsIdealMember c.deref.result.now c.as_slice-generators.result.now z) x fit c.is_member.ensures)
