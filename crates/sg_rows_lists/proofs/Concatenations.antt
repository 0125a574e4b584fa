-- Concatenations as replies.
use Rattle.std.proofs.Common.{◌≡◌, ◌<◌, ◌≤◌, ◌-◌, List, [], ◌∷◌, length, Option, Some, None, IsSome, Result, Ok, Err, IsErrAnd, refl, ap, sym, ◌∙◌, subst, arith}
use Rattle.std.proofs.lemmas.Result.{err_from_is_err_and}
use Rattle.sg_value.specs.declared.limits.TheConstants.{NESTING_LIMIT, WEIGHT_LIMIT}
use Rattle.sg_value.specs.Known.{Known, named}
use Rattle.std.specs.Option.{option_map}
use Rattle.sg_value.specs.Data.{list, none, item, Items, data_map, items_map, weight_of_all, depth_of_all, EachThing, EachThingOfAll}
use Rattle.sg_value.specs.Plain.{AllKnownIn, IsKnown, contents, contents_of_all, plain_of_all, thing_at, Places}
use Rattle.sg_value.specs.declared.value.Value.{Value}
use Rattle.sg_value.specs.declared.value.Value.TheVariants as value
use Rattle.sg_rows.specs.Order.{Case, fits, IsReply}
use Rattle.sg_rows.specs.Kinds.{given, as_list}
use Rattle.sg_rows.specs.Values.{answers}
use Rattle.sg_value.specs.Data.{join}
use Rattle.sg_rows.specs.declared.fault.CallFault.{CallFault}
use Rattle.sg_rows.specs.Replies.{Replies}
use Rattle.sg_rows.specs.declared.fault.Fault.TheVariants.{WrongType, Depth, TooLarge}
use Rattle.sg_rows.specs.declared.fault.CallFault.TheVariants.{Script}
use Rattle.sg_rows.proofs.Replying.{answers_pass}
use Rattle.sg_rows.proofs.Measures.{depth_of_all-map, weight_of_all-map, replies_list, replies_deep, replies_heavy}
use Rattle.sg_rows_lists.specs.Concatenations.{concatenated}
use Rattle.sg_rows_lists.specs.Concatenations.{concatenation_of}
use Rattle.sg_rows_lists.proofs.Joining.{parts_of, concatenated-plain, depth-concatenated, known-concatenated}

-- a value with the same contents as the reply
replies_same : (store : Known) (c : Case) (v w : Value) → contents v ≡ contents w → Replies (Ok w) store c → Replies (Ok v) store c
replies_same store c v w same h = subst (λ d. IsReply c (Ok (data_map (thing_at (named store)) d)) × EachThing (IsKnown (named store)) d) (sym same) h

-- a fault that is handed on
pub of_fault : (store : Known) (c : Case) (r : Result Value CallFault) (e : CallFault) → IsErrAnd r (λ y. y ≡ e) → Replies (Err e) store c → Replies r store c
of_fault store c r e failed h =
    let q = err_from_is_err_and r failed in
    subst (λ t. Replies t store c) (sym (q.1 ∙ ap Err q.2)) h

pub some_of : {A : Type 0} (o : Option A) → IsSome o → (a : A) × (o ≡ Some a)
some_of None h = absurd (cc)
some_of (Some a) h = (a, refl)

none_of : {A : Type 0} (o : Option A) → (IsSome o → ⊥) → o ≡ None
none_of None h = refl
none_of (Some a) h = absurd (h refl)

-- some argument is no list
pub not_lists : (store : Known) (vs : List Value) → (IsSome (concatenated (contents_of_all vs)) → ⊥) → Replies (Err (Script WrongType)) store (concatenation_of (plain_of_all (named store) vs))
not_lists store vs without =
    let f = thing_at (named store) in
    subst (λ o. IsReply (given o (λ ds. fits [] (answers (λ d. d ≡ list ds)))) (Err WrongType)) (sym (concatenated-plain f (contents_of_all vs) ∙ ap (option_map (items_map f)) (none_of (concatenated (contents_of_all vs)) without))) refl

-- the arguments are lists, whose entries are ds
module _ (store : Known) (vs : List Value) (ds : Items Places) (is : concatenated (contents_of_all vs) ≡ Some ds) where
  seen : concatenated (plain_of_all (named store) vs) ≡ Some (items_map (thing_at (named store)) ds)
  seen = concatenated-plain (thing_at (named store)) (contents_of_all vs) ∙ ap (option_map (items_map (thing_at (named store)))) is

  deep : depth_of_all (items_map (thing_at (named store)) ds) ≡ depth_of_all (contents_of_all vs) - 1
  deep = depth_of_all-map (thing_at (named store)) ds ∙ depth-concatenated (contents_of_all vs) ds is

  heavy : weight_of_all (items_map (thing_at (named store)) ds) ≡ weight_of_all ds
  heavy = weight_of_all-map (thing_at (named store)) ds

  pub too_deep : NESTING_LIMIT < depth_of_all (contents_of_all vs) → Replies (Err (Script Depth)) store (concatenation_of (plain_of_all (named store) vs))
  too_deep past =
      let all = items_map (thing_at (named store)) ds in
      let e = deep in
      subst (λ o. Replies (Err (Script Depth)) store (given o (λ es. fits [] (answers (λ d. d ≡ list es))))) (sym seen)
      (replies_deep store (answers (λ d. d ≡ list all)) all (answers_pass (λ d. d ≡ list all)) refl (omega (arith, e, past)))

  pub too_heavy : (NESTING_LIMIT < depth_of_all (contents_of_all vs) → ⊥) → WEIGHT_LIMIT ≤ weight_of_all ds → Replies (Err (Script TooLarge)) store (concatenation_of (plain_of_all (named store) vs))
  too_heavy shallow past =
      let all = items_map (thing_at (named store)) ds in
      let e = deep in
      let w = heavy in
      subst (λ o. Replies (Err (Script TooLarge)) store (given o (λ es. fits [] (answers (λ d. d ≡ list es))))) (sym seen)
      (replies_heavy store (answers (λ d. d ≡ list all)) all (answers_pass (λ d. d ≡ list all)) refl (omega (arith, e, shallow)) (omega (arith, w, past)))

  pub within : (NESTING_LIMIT < depth_of_all (contents_of_all vs) → ⊥) → (WEIGHT_LIMIT ≤ weight_of_all ds → ⊥) → AllKnownIn (named store) vs → (copies : Items Places) → copies ≡ ds
      → Replies (Ok (value.List copies)) store (concatenation_of (plain_of_all (named store) vs))
  within shallow light known copies same =
      let all = items_map (thing_at (named store)) ds in
      let e = deep in
      let w = heavy in
      subst (λ o. Replies (Ok (value.List copies)) store (given o (λ es. fits [] (answers (λ d. d ≡ list es))))) (sym seen)
      (replies_list store (answers (λ d. d ≡ list all)) all copies (answers_pass (λ d. d ≡ list all)) refl (ap (items_map (thing_at (named store))) same) (omega (arith, e, shallow)) (omega (arith, w, light))
      (subst (EachThingOfAll (IsKnown (named store))) (sym same) (known-concatenated (IsKnown (named store)) (contents_of_all vs) ds is known)))

  -- a value that holds the entries of all
  pub within_as : (NESTING_LIMIT < depth_of_all (contents_of_all vs) → ⊥) → (WEIGHT_LIMIT ≤ weight_of_all ds → ⊥) → AllKnownIn (named store) vs → (v : Value) → contents v ≡ list ds
      → Replies (Ok v) store (concatenation_of (plain_of_all (named store) vs))
  within_as shallow light known v same = replies_same store (concatenation_of (plain_of_all (named store) vs)) v (value.List ds) same (within shallow light known ds refl)

-- what a list holds behind which the entries of the others were put
pub appended : (v : Value) (us : List Value) (ds : Items Places) → concatenated (contents_of_all (v ∷ us)) ≡ Some ds → (more : List Value) (w : Value) → ((es : Items Places) → concatenated (contents_of_all us) ≡ Some es → contents_of_all more ≡ es)
    → ((xs : Items Places) → as_list (contents v) ≡ Some xs → contents w ≡ list (join xs (contents_of_all more))) → contents w ≡ list ds
appended v us ds is more w copied added =
    let p = parts_of (contents v) (contents_of_all us) ds is in
    added p.first p.is_first ∙ (ap (λ es. list (join p.first es)) (copied p.others p.are_others) ∙ ap list p.whole)

-- the reply over a copy of the first list is that over the lists
pub of_copy : (r : Result Value CallFault) (store : Known) (v w : Value) (us vs : List Value) → contents v ≡ contents w → vs ≡ w ∷ us
    → (AllKnownIn (named store) (v ∷ us) → Replies r store (concatenation_of (plain_of_all (named store) (v ∷ us)))) → AllKnownIn (named store) vs → Replies r store (concatenation_of (plain_of_all (named store) vs))
of_copy r store v w us vs copy is h known =
    let same : contents_of_all (v ∷ us) ≡ contents_of_all vs = ap (λ d. item d (contents_of_all us)) copy ∙ ap contents_of_all (sym is) in
    subst (λ ds. Replies r store (concatenation_of (items_map (thing_at (named store)) ds))) same (h (subst (EachThingOfAll (IsKnown (named store))) (sym same) known))

-- no list at all
pub of_none : (store : Known) (vs : List Value) (copies : Items Places) → length vs ≡ 0 → copies ≡ none → AllKnownIn (named store) vs → Replies (Ok (value.List copies)) store (concatenation_of (plain_of_all (named store) vs))
of_none store [] copies empty is known = within store [] none refl (λ h. absurd (omega (arith, h))) (λ h. absurd (omega (arith, h))) known copies is
of_none store (v ∷ vs) copies empty is known = absurd (omega (arith, empty))
