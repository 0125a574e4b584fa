-- Keys that stand for things, after one was inserted.
use Rattle.std.proofs.Common.{◌≡◌, ℕ, zero, suc, Bool, true, false, List, [], ◌∷◌, ◌++◌, map, slice_get, Some, ◌||◌, if◌then◌else◌, refl, ap, sym, ◌∙◌, subst, true≢false, inl, inr, ◌⊎◌}
use Rattle.std.proofs.lemmas.List.{map-append}
use Rattle.std.proofs.lemmas.Option.{slice_get-map}
use Rattle.std.specs.Option.{option_map}
use Rattle.std.specs.List.{list_any, IsDistinct, AllByRecursion}
use Rattle.indexmap.specs.IndexSet.{insert_key}

pub some_is : {A : Type 0} (x y : A) → Some x ≡ Some y → x ≡ y
some_is x y h = cc

-- what stands in front stays
pub front : {A : Type 0} (xs ys : List A) (i : ℕ) (x : A) → slice_get xs i ≡ Some x → slice_get (xs ++ ys) i ≡ Some x
front [] ys i x h = absurd (cc)
front (y ∷ xs) ys zero x h = h
front (y ∷ xs) ys (suc i) x h = front xs ys i x h

-- an item stood there before, or is the one that was put last
pub before_or_last : {A : Type 0} (xs : List A) (y : A) (i : ℕ) (x : A) → slice_get (xs ++ y ∷ []) i ≡ Some x → (slice_get xs i ≡ Some x) ⊎ (y ≡ x)
before_or_last [] y zero x h = inr (some_is y x h)
before_or_last [] y (suc i) x h = absurd (cc)
before_or_last (z ∷ xs) y zero x h = inl h
before_or_last (z ∷ xs) y (suc i) x h = before_or_last xs y i x h

-- keys, one of which comes in where none is the same
module _ {K : Type 0} (same : K → K → Bool) (keys : List K) (k : K) where
  abbrev pub added : Bool → List K
  added b = if b then keys else keys ++ k ∷ []

  old_or_new : (b : Bool) (i : ℕ) (x : K) → slice_get (added b) i ≡ Some x → (slice_get keys i ≡ Some x) ⊎ (k ≡ x)
  old_or_new true i x h = inl h
  old_or_new false i x h = before_or_last keys k i x h

  -- a key stood there, or is the one that came in
  pub old_or_inserted : (i : ℕ) (x : K) → slice_get (insert_key same keys k) i ≡ Some x → (slice_get keys i ≡ Some x) ⊎ (k ≡ x)
  old_or_inserted = old_or_new (list_any (same k) keys)

  only_added : (b : Bool) → (added b ≡ keys) ⊎ (added b ≡ keys ++ k ∷ [])
  only_added true = inl refl
  only_added false = inr refl

  pub only : (insert_key same keys k ≡ keys) ⊎ (insert_key same keys k ≡ keys ++ k ∷ [])
  only = only_added (list_any (same k) keys)

  module _ {T : Type 0} (thing : K → T) where
    kept_added : (b : Bool) (i : ℕ) (t : T) → slice_get (map thing keys) i ≡ Some t → slice_get (map thing (added b)) i ≡ Some t
    kept_added true i t h = h
    kept_added false i t h = subst (λ l. slice_get l i ≡ Some t) (sym (map-append thing keys (k ∷ []))) (front (map thing keys) (thing k ∷ []) i t h)

    -- what places stood for they go on to stand for
    pub kept : (i : ℕ) (t : T) → slice_get (map thing keys) i ≡ Some t → slice_get (map thing (insert_key same keys k)) i ≡ Some t
    kept = kept_added (list_any (same k) keys)

-- a thing at a place is that of the key there
pub key_at : {K T : Type 0} (thing : K → T) (keys : List K) (i : ℕ) (t : T) → slice_get (map thing keys) i ≡ Some t → (x : K) × (slice_get keys i ≡ Some x) × (thing x ≡ t)
key_at thing [] i t h = absurd (cc)
key_at thing (x ∷ xs) zero t h = (x, refl, some_is (thing x) t h)
key_at thing (x ∷ xs) (suc i) t h = key_at thing xs i t h

pub thing_of_key : {K T : Type 0} (thing : K → T) (keys : List K) (i : ℕ) (x : K) → slice_get keys i ≡ Some x → slice_get (map thing keys) i ≡ Some (thing x)
thing_of_key thing keys i x at = slice_get-map thing keys i ∙ ap (option_map thing) at

-- each key stands for a thing, and keys are the same where the things are
module _ {K T : Type 0} (thing : K → T) (same : K → K → Bool) (decides : (a b : K) → (same a b ≡ true → thing a ≡ thing b) × (thing a ≡ thing b → same a b ≡ true)) where
  found : (keys : List K) (k : K) (i : ℕ) → slice_get (map thing keys) i ≡ Some (thing k) → list_any (same k) keys ≡ true
  found [] k i h = absurd (cc)
  found (x ∷ xs) k zero h = ap (λ b. b || list_any (same k) xs) ((decides k x).1 (sym (some_is (thing x) (thing k) h)))
  found (x ∷ xs) k (suc i) h = by (same k x) (found xs k i h)
    where
      by : (b : Bool) → list_any (same k) xs ≡ true → (b || list_any (same k) xs) ≡ true
      by true e = refl
      by false e = e

  absent : (xs : List K) (x : K) (j : ℕ) → AllByRecursion (λ y. same x y ≡ false) xs → slice_get (map thing xs) j ≡ Some (thing x) → ⊥
  absent [] x j all h = cc
  absent (y ∷ ys) x zero all h = true≢false (sym ((decides x y).1 (sym (some_is (thing y) (thing x) h))) ∙ all.0)
  absent (y ∷ ys) x (suc j) all h = absent ys x j all.1 h

  -- where no two keys are the same, no two places stand for the same thing
  pub injective : (keys : List K) → IsDistinct same keys → (i j : ℕ) (t : T) → slice_get (map thing keys) i ≡ Some t → slice_get (map thing keys) j ≡ Some t → i ≡ j
  unfolding IsDistinct
  injective [] d i j t h k = absurd (cc)
  injective (x ∷ xs) d zero zero t h k = refl
  injective (x ∷ xs) d zero (suc j) t h k = absurd (absent xs x j d.0 (k ∙ sym h))
  injective (x ∷ xs) d (suc i) zero t h k = absurd (absent xs x i d.0 (h ∙ sym k))
  injective (x ∷ xs) d (suc i) (suc j) t h k = ap suc (injective xs d.1 i j t h k)

  module _ (keys : List K) (k : K) where
    -- a thing that was known leaves the keys as they were
    pub unchanged : (i : ℕ) → slice_get (map thing keys) i ≡ Some (thing k) → insert_key same keys k ≡ keys
    unchanged i h = ap (added same keys k) (found keys k i h)

    -- the place of a key that is the same stands for its thing
    pub stands : (found_key : K) (id : ℕ) → slice_get (insert_key same keys k) id ≡ Some found_key → same k found_key ≡ true → slice_get (map thing (insert_key same keys k)) id ≡ Some (thing k)
    stands found_key id at e = slice_get-map thing (insert_key same keys k) id ∙ (ap (option_map thing) at ∙ ap Some (sym ((decides k found_key).0 e)))

    -- where the thing was known its place is the old one
    pub old_place : (found_key : K) (id : ℕ) → slice_get (insert_key same keys k) id ≡ Some found_key → same k found_key ≡ true → IsDistinct same (insert_key same keys k)
        → (i : ℕ) → slice_get (map thing keys) i ≡ Some (thing k) → id ≡ i
    old_place found_key id at e distinct i h = injective (insert_key same keys k) distinct id i (thing k) (stands found_key id at e) (kept same keys k thing i (thing k) h)
