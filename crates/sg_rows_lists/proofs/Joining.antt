-- The entries of lists, one list after the other.
use Rattle.std.proofs.Common.{◌≡◌, ◌≤◌, ◌<◌, ◌+◌, ◌-◌, ℕ, suc, List, [], ◌∷◌, ◌++◌, length, get_or, drop, Option, Some, None, refl, ap, sym, ◌∙◌, subst, arith}
use Rattle.std.specs.Option.{option_map}
use Rattle.std.proofs.lemmas.List.{drop_all}
use Rattle.sg_value.specs.Data.{Data, list, Items, none, item, join, data_map, items_map, weight_of, weight_of_all, depth_of, depth_of_all, EachThing, EachThingOfAll, Kind}
use Rattle.sg_value.specs.Plain.{contents, contents_of_all, Places}
use Rattle.sg_value.specs.declared.value.Value.{Value}
use Rattle.sg_value.proofs.Joins.{contents_of_all-append, join-none, join-assoc, depth-join, weight-join}
use Rattle.sg_rows.specs.Kinds.{as_list}
use Rattle.sg_rows.specs.Entries.{entry_count}
use Rattle.sg_rows.proofs.EntryLemmas.{contents_of_all-drop}
use Rattle.sg_rows_lists.specs.Concatenations.{concatenated}

-- a first list
pub concatenated-list : {H : Kind → Type 0} (d : Data H) (xs es : Items H) → as_list d ≡ Some xs → concatenated (item d es) ≡ option_map (join xs) (concatenated es)
concatenated-list (list ys) xs es is = ap (λ zs. option_map (join zs) (concatenated es)) (let e : ys ≡ xs = cc in e)
concatenated-list _ xs es is = absurd (cc)

-- a first value that is none
pub concatenated-no_list : {H : Kind → Type 0} (d : Data H) (es : Items H) → as_list d ≡ None → concatenated (item d es) ≡ None
concatenated-no_list (list ys) es is = absurd (cc)
concatenated-no_list _ es is = refl

-- the entries of the first list, and those of the others
pub record Parts {H : Kind → Type 0} (d : Data H) (es ds : Items H) : Type 0 where
  pub first : Items H
  pub others : Items H
  pub is_first : as_list d ≡ Some first
  pub are_others : concatenated es ≡ Some others
  pub whole : join first others ≡ ds

pub parts_of : {H : Kind → Type 0} (d : Data H) (es ds : Items H) → concatenated (item d es) ≡ Some ds → Parts d es ds
parts_of {H = H} (list xs) es ds is = by (concatenated es) refl
  where
    by : (o : Option (Items H)) → concatenated es ≡ o → Parts (list xs) es ds
    by None e = let f : None ≡ Some ds = sym (ap (option_map (join xs)) e) ∙ is in absurd (cc)
    by (Some fs) e = let f : Some (join xs fs) ≡ Some ds = sym (ap (option_map (join xs)) e) ∙ is in record { first = xs; others = fs; is_first = refl; are_others = e; whole = cc }
parts_of _ es ds is = absurd (cc)

-- what is plain is concatenated alike
pub concatenated-plain : {H K : Kind → Type 0} (f : (k : Kind) → H k → K k) (es : Items H) → concatenated (items_map f es) ≡ option_map (items_map f) (concatenated es)
concatenated-plain f none = refl
concatenated-plain {H = H} f (item (list xs) es) = ap (option_map (join (items_map f xs))) (concatenated-plain f es) ∙ over (concatenated es)
  where
    inside : (ys fs : Items H) → join (items_map f ys) (items_map f fs) ≡ items_map f (join ys fs)
    inside none fs = refl
    inside (item y ys) fs = ap (item (data_map f y)) (inside ys fs)

    over : (o : Option (Items H)) → option_map (join (items_map f xs)) (option_map (items_map f) o) ≡ option_map (items_map f) (option_map (join xs) o)
    over None = refl
    over (Some fs) = ap Some (inside xs fs)
concatenated-plain f (item _ es) = refl

depth-list : {H : Kind → Type 0} (d : Data H) (xs : Items H) → as_list d ≡ Some xs → depth_of d ≡ suc (depth_of_all xs)
depth-list (list ys) xs is = let e : ys ≡ xs = cc in ap (λ zs. suc (depth_of_all zs)) e
depth-list _ xs is = absurd (cc)

weight-list : {H : Kind → Type 0} (d : Data H) (xs : Items H) → as_list d ≡ Some xs → weight_of d ≡ suc (weight_of_all xs)
weight-list (list ys) xs is = let e : ys ≡ xs = cc in ap (λ zs. suc (weight_of_all zs)) e
weight-list _ xs is = absurd (cc)

-- the lists are one deeper than their entries
pub depth-concatenated : {H : Kind → Type 0} (es ds : Items H) → concatenated es ≡ Some ds → depth_of_all ds ≡ depth_of_all es - 1
depth-concatenated none ds is = let e : none ≡ ds = cc in ap depth_of_all (sym e)
depth-concatenated (item d es) ds is =
    let p = parts_of d es ds is in
    let here = depth-list d p.first p.is_first in
    let rest = depth-concatenated es p.others p.are_others in
    ap depth_of_all (sym p.whole) ∙ (depth-join p.first p.others ∙ omega (arith, here, rest))

-- each list weighs one more than its entries
pub weight-concatenated : {H : Kind → Type 0} (es ds : Items H) → concatenated es ≡ Some ds → weight_of_all es ≡ weight_of_all ds + entry_count es
weight-concatenated none ds is = let e : none ≡ ds = cc in ap (λ fs. weight_of_all fs + 0) e
weight-concatenated (item d es) ds is =
    let p = parts_of d es ds is in
    let here = weight-list d p.first p.is_first in
    let rest = weight-concatenated es p.others p.are_others in
    let whole : weight_of_all ds ≡ weight_of_all p.first + weight_of_all p.others = ap weight_of_all (sym p.whole) ∙ weight-join p.first p.others in
    omega (arith, here, rest, whole)

pub entry_count-contents : (vs : List Value) → entry_count (contents_of_all vs) ≡ length vs
entry_count-contents [] = refl
entry_count-contents (v ∷ vs) = ap suc (entry_count-contents vs)

known-join : {H : Kind → Type 0} (P : (k : Kind) → H k → Type 0) (ds es : Items H) → EachThingOfAll P ds → EachThingOfAll P es → EachThingOfAll P (join ds es)
known-join P none es h k = k
known-join P (item d ds) es h k = (h.0, known-join P ds es h.1 k)

known-list : {H : Kind → Type 0} (P : (k : Kind) → H k → Type 0) (d : Data H) (xs : Items H) → as_list d ≡ Some xs → EachThing P d → EachThingOfAll P xs
known-list P (list ys) xs is h = let e : ys ≡ xs = cc in subst (EachThingOfAll P) e h
known-list P _ xs is h = absurd (cc)

pub known-concatenated : {H : Kind → Type 0} (P : (k : Kind) → H k → Type 0) (es ds : Items H) → concatenated es ≡ Some ds → EachThingOfAll P es → EachThingOfAll P ds
known-concatenated P none ds is h = let e : none ≡ ds = cc in subst (EachThingOfAll P) e tt
known-concatenated P (item d es) ds is h =
    let p = parts_of d es ds is in
    subst (EachThingOfAll P) p.whole (known-join P p.first p.others (known-list P d p.first p.is_first h.0) (known-concatenated P es p.others p.are_others h.1))

-- a copy more
pub copied_more : (copies : List Value) (v copy : Value) (rest all : Items Places) → contents copy ≡ contents v → join (contents_of_all copies) (item (contents v) rest) ≡ all → join (contents_of_all (copies ++ copy ∷ [])) rest ≡ all
copied_more copies v copy rest all same so_far =
    ap (λ ds. join ds rest) (contents_of_all-append copies (copy ∷ []))
    ∙ (join-assoc (contents_of_all copies) (item (contents copy) none) rest ∙ (ap (λ d. join (contents_of_all copies) (item d rest)) same ∙ so_far))

abbrev pub Left : List Value → List Value → Items Places → Type 0
Left copies lists ds = (es : Items Places) × (concatenated (contents_of_all lists) ≡ Some es) × (join (contents_of_all copies) es ≡ ds)

-- the entries of a list more
pub joined_more : (copies news lists : List Value) (i : ℕ) (v : Value) (ds : Items Places) → i < length lists → v ≡ get_or lists i v
    → ((xs : Items Places) → as_list (contents v) ≡ Some xs → contents_of_all news ≡ join (contents_of_all copies) xs) → Left copies (drop i lists) ds → Left news (drop (i + 1) lists) ds
joined_more copies news lists i v ds within is added left =
    let p = parts_of (contents v) (contents_of_all (drop (i + 1) lists)) left.0 (ap concatenated (sym (contents_of_all-drop lists i v within is)) ∙ left.1) in
    (p.others, p.are_others, ap (λ es. join es p.others) (added p.first p.is_first) ∙ (join-assoc (contents_of_all copies) p.first p.others ∙ (ap (join (contents_of_all copies)) p.whole ∙ left.2)))

-- no list is left
pub joined_whole : (copies lists : List Value) (i : ℕ) (ds : Items Places) → length lists ≤ i → Left copies (drop i lists) ds → contents_of_all copies ≡ ds
joined_whole copies lists i ds past left =
    let e : Some none ≡ Some left.0 = ap (λ vs. concatenated (contents_of_all vs)) (sym (drop_all i lists past)) ∙ left.1 in
    sym (join-none (contents_of_all copies)) ∙ (ap (join (contents_of_all copies)) (let f : none ≡ left.0 = cc in f) ∙ left.2)
