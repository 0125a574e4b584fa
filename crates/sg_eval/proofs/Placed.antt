-- Entries of lists by their places.
use Rattle.std.proofs.Common.{◌≡◌, ◌<◌, ◌≤◌, ℕ, zero, suc, ℤ, pos, negsuc, List, [], ◌∷◌, Option, Some, None, Ok, Err, length, get_or, refl, ap, sym, ◌∙◌, subst, arith}
use Rattle.sg_value.specs.Known.{named}
use Rattle.std.specs.Option.{option_map}
use Rattle.sg_value.specs.Data.{Data, Items, int, truth, text, list, ratio, fail, semigroup, ideal, none, item, data_map, items_map, EachThing, EachThingOfAll, Kind}
use Rattle.sg_value.specs.Plain.{Things, AllKnown, IsKnown, contents, contents_of_all, plain, thing_at, Places, Stored}
use Rattle.sg_value.specs.declared.value.Value.{Value}
use Rattle.sg_rows.specs.Kinds.{as_integer, as_list}
use Rattle.sg_rows.specs.declared.fault.Fault.TheVariants.{IndexOut}
use Rattle.sg_rows.specs.declared.fault.CallFault.TheVariants.{Script}
use Rattle.sg_rows.proofs.KindLemmas.{as_integer-plain}
use Rattle.sg_meaning.specs.Entries.{entry_at, entry_at_integer, as_natural}
use Rattle.sg_meaning.specs.Queries.{found_or_out, item_of, indexes}
use Rattle.sg_meaning.specs.Expressions.{ask}
use Rattle.sg_eval.specs.Outcomes.{Evaluates}
use Rattle.sg_eval.proofs.Over.{over_told}
use Rattle.sg_eval.specs.State.{State}
use Rattle.sg_eval.proofs.Evaluating.{keeps_all}
use Rattle.sg_eval.proofs.Later.{copy_plain, copy_known}

-- no entry has the place 0
pub entry_zero : {H : Kind → Type 0} (ds : Items H) → entry_at ds 0 ≡ None
entry_zero none = refl
entry_zero (item d ds) = refl

-- the place as a natural number
pub entry_natural : {H : Kind → Type 0} (ds : Items H) (z : ℤ) (n : ℕ) → as_natural z ≡ Some n → entry_at_integer ds z ≡ entry_at ds n
entry_natural ds (pos m) n is = let same : m ≡ n = cc in ap (entry_at ds) same
entry_natural ds (negsuc m) n is = absurd (cc)

pub entry_negative : {H : Kind → Type 0} (ds : Items H) (z : ℤ) → as_natural z ≡ None → entry_at_integer ds z ≡ None
entry_negative ds (pos m) is = absurd (cc)
entry_negative ds (negsuc m) is = refl

-- an entry that is there
pub entry_there : (vs : List Value) (k : ℕ) (v : Value) → k < length vs → v ≡ get_or vs k v → entry_at (contents_of_all vs) (suc k) ≡ Some (contents v)
entry_there [] k v within is = absurd (omega (arith, within))
entry_there (u ∷ us) zero v within is = ap (λ x. Some (contents x)) (sym is)
entry_there (u ∷ us) (suc k) v within is = entry_there us k v (omega (arith, within)) is

-- a place behind the last
pub entry_past : (vs : List Value) (k : ℕ) → length vs ≤ k → entry_at (contents_of_all vs) (suc k) ≡ None
entry_past [] k past = refl
entry_past (u ∷ us) zero past = absurd (omega (arith, past))
entry_past (u ∷ us) (suc k) past = entry_past us k (omega (arith, past))

entry_at-map : {H : Kind → Type 0} (f : (k : Kind) → H k → Things k) (ds : Items H) (n : ℕ) → entry_at (items_map f ds) n ≡ option_map (data_map f) (entry_at ds n)
entry_at-map f none n = refl
entry_at-map f (item d ds) zero = refl
entry_at-map f (item d ds) (suc zero) = refl
entry_at-map f (item d ds) (suc (suc n)) = entry_at-map f ds (suc n)

entry_at_integer-map : {H : Kind → Type 0} (f : (k : Kind) → H k → Things k) (ds : Items H) (z : ℤ) → entry_at_integer (items_map f ds) z ≡ option_map (data_map f) (entry_at_integer ds z)
entry_at_integer-map f ds (pos n) = entry_at-map f ds n
entry_at_integer-map f ds (negsuc n) = refl

list-map : {H K : Kind → Type 0} (f : (k : Kind) → H k → K k) (d : Data H) → as_list (data_map f d) ≡ option_map (items_map f) (as_list d)
list-map f (int z) = refl
list-map f (truth b) = refl
list-map f (text bs) = refl
list-map f (list ds) = refl
list-map f (ratio p q) = refl
list-map f fail = refl
list-map f (semigroup h) = refl
list-map f (ideal h) = refl

entry_known : {H : Kind → Type 0} (P : (k : Kind) → H k → Type 0) (ds : Items H) (n : ℕ) (d : Data H) → EachThingOfAll P ds → entry_at ds n ≡ Some d → EachThing P d
entry_known P none n d each is = absurd (cc)
entry_known P (item e ds) zero d each is = absurd (cc)
entry_known P (item e ds) (suc zero) d each is = let same : e ≡ d = cc in subst (EachThing P) same each.0
entry_known P (item e ds) (suc (suc n)) d each is = entry_known P ds (suc n) d each.1 is

entry_in_known : {H : Kind → Type 0} (P : (k : Kind) → H k → Type 0) (ds : Items H) (z : ℤ) (d : Data H) → EachThingOfAll P ds → entry_at_integer ds z ≡ Some d → EachThing P d
entry_in_known P ds (pos n) d each is = entry_known P ds n d each is
entry_in_known P ds (negsuc n) d each is = absurd (cc)

entries_known : {H : Kind → Type 0} (P : (k : Kind) → H k → Type 0) (d : Data H) (ds : Items H) → as_list d ≡ Some ds → EachThing P d → EachThingOfAll P ds
entries_known P (list es) ds is each = let same : es ≡ ds = cc in subst (EachThingOfAll P) same each
entries_known P (int z) ds is each = absurd (cc)
entries_known P (truth b) ds is each = absurd (cc)
entries_known P (text bs) ds is each = absurd (cc)
entries_known P (ratio p q) ds is each = absurd (cc)
entries_known P fail ds is each = absurd (cc)
entries_known P (semigroup h) ds is each = absurd (cc)
entries_known P (ideal h) ds is each = absurd (cc)

item_as : (f : (k : Kind) → Places k → Things k) (l p : Stored) (ds : Items Places) (z : ℤ) (o : Option Stored) → as_list l ≡ Some ds → as_integer p ≡ Some z → entry_at_integer ds z ≡ o
    → item_of (as_list (data_map f l)) (as_integer (data_map f p)) ≡ found_or_out (option_map (data_map f) o)
item_as f l p ds z o is_l is_p is_o =
    ap (λ x. item_of x (as_integer (data_map f p))) (list-map f l ∙ ap (option_map (items_map f)) is_l)
    ∙ (ap (item_of (Some (items_map f ds))) (as_integer-plain f p ∙ is_p) ∙ ap found_or_out (entry_at_integer-map f ds z ∙ ap (option_map (data_map f)) is_o))

module _ (s : State) (l p : Value) (ds : Items Places) (z : ℤ) (is_l : as_list (contents l) ≡ Some ds) (is_p : as_integer (contents p) ≡ Some z) where
  -- the entry is found
  pub index_found : (v w : Value) → AllKnown (named s.names) l → entry_at_integer ds z ≡ Some (contents v) → contents w ≡ contents v
      → Evaluates plain AllKnown (Ok w) s s (λ names. ask (indexes (plain names l) (plain names p)))
  index_found v w is_known found copy =
      let known_v = entry_in_known (IsKnown (named s.names)) ds z (contents v) (entries_known (IsKnown (named s.names)) (contents l) ds is_l is_known) found in
      record {
        keeps = keeps_all s.names;
        variables = refl;
        budget = refl;
        parameters = refl;
        is_known = copy_known (named s.names) v w copy known_v;
        gives = λ final later. over_told s.budget (indexes (plain (named final) l) (plain (named final) p)) (Ok (plain (named final) w)) s.variables s.attributes
            (sym (item_as (thing_at (named final)) (contents l) (contents p) ds z (Some (contents v)) is_l is_p found ∙ ap Ok (sym (copy_plain (named final) v w copy))), refl);
      }

  -- there is no such entry
  pub index_out : entry_at_integer ds z ≡ None → Evaluates plain AllKnown (Err (Script IndexOut)) s s (λ names. ask (indexes (plain names l) (plain names p)))
  index_out out = record {
    keeps = keeps_all s.names;
    variables = refl;
    budget = refl;
    parameters = tt;
    is_known = tt;
    gives = λ final later. over_told s.budget (indexes (plain (named final) l) (plain (named final) p)) (Err IndexOut) s.variables s.attributes
        (sym (item_as (thing_at (named final)) (contents l) (contents p) ds z None is_l is_p out), refl);
  }
