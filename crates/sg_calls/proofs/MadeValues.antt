-- What rows made, as values over a store.
use Rattle.std.proofs.Common.{◌≡◌, ◌<◌, ◌≤◌, ℕ, ℤ, List, [], map, Some, Ok, Err, slice_get, unwrap_or, is_some, inr, refl, ap, sym, ◌∙◌, subst, arith}
use Rattle.sg_value.specs.Data.{Data, Kind, int, list, semigroup, ideal, items_of, data_map, EachThing, depth_of, weight_of, ideals}
use Rattle.sg_value.specs.Known.{Known, named}
use Rattle.sg_value.specs.Plain.{AllKnownIn, IsKnown, contents, contents_of_all, nothing, plain_of_all, thing_at}
use Rattle.sg_value.specs.declared.limits.TheConstants.{WEIGHT_LIMIT}
use Rattle.sg_value.specs.declared.value.Value.{Value}
use Rattle.sg_value.specs.declared.value.Value.TheVariants as value
use Rattle.std.specs.Prelude.{pos}
use Rattle.sg_rows.specs.Made.{datum}
use Rattle.sg_rows.specs.Order.{Delivers, InBits, IsReplyOf}
use Rattle.sg_rows.specs.Replies.{RepliesOf}
use Rattle.sg_rows.specs.Values.{answers, natural_list, vector_list}
use Rattle.sg_rows.specs.declared.fault.CallFault.TheVariants.{Script}
use Rattle.sg_rows.specs.declared.fault.Fault.TheVariants.{TooLarge}
use Rattle.sg_rows.specs.declared.made.Made.{Made}
use Rattle.sg_rows.specs.declared.made.Made.TheVariants.{Integer, Natural, Truth, Ratio, Fail, Integers, Naturals, Vectors, VectorLists, Semigroup, Semigroups, Ideal}
use Rattle.sg_rows.proofs.Listing.{delivers_integers, delivers_heavy_integers, delivers_naturals, delivers_heavy_naturals, delivers_semigroups, delivers_heavy_semigroups, delivers_vectors, delivers_heavy_vectors, delivers_lists, delivers_heavy_lists, plain_integers, plain_naturals, plain_vectors, plain_lists, integers_known, naturals_known, vectors_known, lists_known}
use Rattle.sg_rows.proofs.Replying.{answers_pass, delivered}
use Rattle.sg_calls.specs.Delivered.{IsValueOf, weight_made}

-- ---- values by what was made

module _ (store : Known) where
  -- a list of integers
  pub integers_value : (zs : List ℤ) (vs : List Value) (v : Value) → contents v ≡ list (contents_of_all vs) → contents_of_all vs ≡ items_of (map int zs) → IsValueOf store (Integers zs) v
  integers_value zs vs v is same =
      let seen = is ∙ ap list same in
      record {
        is = ap (data_map (thing_at (named store))) seen ∙ plain_integers (thing_at (named store)) zs;
        known = subst (EachThing (IsKnown (named store))) (sym seen) (integers_known (IsKnown (named store)) zs);
        bits = tt;
      }

  -- a list of naturals
  pub naturals_value : (ns : List ℕ) (vs : List Value) (v : Value) → contents v ≡ list (contents_of_all vs) → contents_of_all vs ≡ items_of (map (λ n. int (pos n)) ns) → IsValueOf store (Naturals ns) v
  naturals_value ns vs v is same =
      let seen = is ∙ ap list same in
      record {
        is = ap (data_map (thing_at (named store))) seen ∙ plain_naturals (thing_at (named store)) ns;
        known = subst (EachThing (IsKnown (named store))) (sym seen) (naturals_known (IsKnown (named store)) ns);
        bits = tt;
      }

  -- a list of vectors
  pub vectors_value : (ls : List (List ℕ)) (vs : List Value) (v : Value) → contents v ≡ list (contents_of_all vs) → contents_of_all vs ≡ items_of (map natural_list ls) → IsValueOf store (Vectors ls) v
  vectors_value ls vs v is same =
      let seen = is ∙ ap list same in
      record {
        is = ap (data_map (thing_at (named store))) seen ∙ plain_vectors (thing_at (named store)) ls;
        known = subst (EachThing (IsKnown (named store))) (sym seen) (vectors_known (IsKnown (named store)) ls);
        bits = tt;
      }

  -- a list of lists of vectors
  pub lists_value : (ls : List (List (List ℕ))) (vs : List Value) (v : Value) → contents v ≡ list (contents_of_all vs) → contents_of_all vs ≡ items_of (map vector_list ls) → IsValueOf store (VectorLists ls) v
  lists_value ls vs v is same =
      let seen = is ∙ ap list same in
      record {
        is = ap (data_map (thing_at (named store))) seen ∙ plain_lists (thing_at (named store)) ls;
        known = subst (EachThing (IsKnown (named store))) (sym seen) (lists_known (IsKnown (named store)) ls);
        bits = tt;
      }

  -- a list of semigroups
  pub semigroups_value : (L : List (List ℕ)) (vs : List Value) (v : Value) → contents v ≡ list (contents_of_all vs) → plain_of_all (named store) vs ≡ items_of (map semigroup L) → AllKnownIn (named store) vs → IsValueOf store (Semigroups L) v
  semigroups_value L vs v is same known = record {
    is = ap (data_map (thing_at (named store))) is ∙ ap list same;
    known = subst (EachThing (IsKnown (named store))) (sym is) known;
    bits = tt;
  }

  -- a semigroup, by its id
  pub semigroup_value_of : (G : List ℕ) (id : ℕ) → slice_get store.semigroups id ≡ Some G → IsValueOf store (Semigroup G) (value.Sem id)
  semigroup_value_of G id at = record { is = ap (λ o. semigroup (unwrap_or o [])) at; known = ap is_some at; bits = tt }

  -- an ideal, by its id
  pub ideal_value_of : (G : List ℕ) (I : List ℤ) (id : ℕ) → slice_get store.ideals id ≡ Some (record { ambient = G; generators = I }) → IsValueOf store (Ideal G I) (value.Ideal id)
  ideal_value_of G I id at = record { is = ap (λ o. ideal (unwrap_or o (nothing ideals))) at; known = ap is_some at; bits = tt }

-- ---- replies

-- what is no list is within the limits
delivers_single : {H : Kind → Type 0} (d : Data H) → InBits d → depth_of d ≡ 0 → weight_of d ≡ 1 → Delivers d (Ok d)
delivers_single d bits flat light = inr ((λ f. f bits), inr ((λ deep. absurd (omega (arith, flat, deep))), inr ((λ heavy. absurd (omega (arith, light, heavy))), refl)))

light_delivers : (m : Made) → InBits (datum m) → weight_made m < WEIGHT_LIMIT → Delivers (datum m) (Ok (datum m))
light_delivers (Integers zs) bits few = delivers_integers zs few
light_delivers (Naturals ns) bits few = delivers_naturals ns few
light_delivers (Vectors vs) bits few = delivers_vectors vs few
light_delivers (VectorLists ls) bits few = delivers_lists ls few
light_delivers (Semigroups L) bits few = delivers_semigroups L few
light_delivers (Integer z) bits few = delivers_single (int z) bits refl refl
light_delivers (Natural n) bits few = delivers_single (int (pos n)) bits refl refl
light_delivers (Truth b) bits few = delivers_single (datum (Truth b)) bits refl refl
light_delivers (Ratio r) bits few = delivers_single (datum (Ratio r)) bits refl refl
light_delivers Fail bits few = delivers_single (datum Fail) bits refl refl
light_delivers (Semigroup G) bits few = delivers_single (datum (Semigroup G)) bits refl refl
light_delivers (Ideal G I) bits few = delivers_single (datum (Ideal G I)) bits refl refl

-- the value of what is not too heavy is the reply
pub value_replies : (store : Known) (m : Made) (v : Value) → IsValueOf store m v → weight_made m < WEIGHT_LIMIT → RepliesOf (Ok v) store (answers (λ d. d ≡ datum m))
value_replies store m v h few =
    let row = answers (λ d. d ≡ datum m) in
    (subst (λ d. IsReplyOf row (Ok d)) (sym h.is) (delivered row (datum m) (Ok (datum m)) (answers_pass (λ d. d ≡ datum m)) refl (light_delivers m h.bits few)), h.known)

delivers_too_heavy : (m : Made) → WEIGHT_LIMIT ≤ weight_made m → Delivers (datum m) (Err TooLarge)
delivers_too_heavy (Integers zs) many = delivers_heavy_integers zs many
delivers_too_heavy (Naturals ns) many = delivers_heavy_naturals ns many
delivers_too_heavy (Vectors vs) many = delivers_heavy_vectors vs many
delivers_too_heavy (VectorLists ls) many = delivers_heavy_lists ls many
delivers_too_heavy (Semigroups L) many = delivers_heavy_semigroups L many
delivers_too_heavy _ many = absurd (omega (arith, many))

-- what is too heavy is refused
pub heavy_replies : (store : Known) (m : Made) → WEIGHT_LIMIT ≤ weight_made m → RepliesOf (Err (Script TooLarge)) store (answers (λ d. d ≡ datum m))
heavy_replies store m many = delivered (answers (λ d. d ≡ datum m)) (datum m) (Err TooLarge) (answers_pass (λ d. d ≡ datum m)) refl (delivers_too_heavy m many)
