-- What a store knows after a semigroup or an ideal was interned.
use Rattle.std.proofs.Common.{◌≡◌, ℕ, ℤ, zero, suc, Bool, true, false, ◌&&◌, nat_eq, List, [], ◌∷◌, ◌++◌, map, slice_get, Some, IsSome, is_some, unwrap_or, refl, ap, ap₂, sym, ◌∙◌, subst, inl, inr, ◌⊎◌}
use Rattle.std.proofs.lemmas.List.{map-append}
use Rattle.std.specs.List.{IsDistinct}
use Rattle.std.proofs.lemmas.Slice.Eq.{bytes_eq-Decides}
use Rattle.std.specs.Cmp.Lexicographic.{pointwise}
use Rattle.std.specs.Cmp.Rules.{signed_items}
use Rattle.std.specs.Ordering.{int_eq}
use Rattle.std.proofs.lemmas.Bool.Decides.{Decides-eqb}
use Rattle.indexmap.specs.IndexSet.{insert_key}
use Rattle.sg_value.specs.Data.{semigroups, ideals}
use Rattle.sg_value.specs.Plain.{AreDistinct, RelativeIdeal, thing_at, nothing}
use Rattle.sg_value.specs.Known.{named}
use Rattle.sg_lawful.specs.Lawful.{IsLawfulList}
use Rattle.sg_store.specs.Fit.{IsLawfulRelative}
use Rattle.sg_store.specs.Held.{same_key, same_ideal_key, lists_of, list_at, ideal_of, ideals_of, known_by, AllFit, IsFitKey, AllIdealsFit}
use Rattle.sg_store.specs.Interned.{Keeps, IsInterned, IsIdealInterned, with_semigroup, with_ideal}
use Rattle.sg_store.specs.Keyed.{IsKeyOf}
use Rattle.sg_store.specs.declared.key.Key.{Key}
use Rattle.sg_store.specs.declared.key.IdealKey.{IdealKey}
use Rattle.sg_store.proofs.Inserting.{old_or_inserted, only, kept, key_at, thing_of_key, injective, unchanged, stands, old_place}

-- ---- keys

list_of : Key → List ℕ
list_of k = k.list

same_lists : (a b : Key) → (same_key a b ≡ true → a.list ≡ b.list) × (a.list ≡ b.list → same_key a b ≡ true)
same_lists a b = bytes_eq-Decides a.list b.list

abbrev pub Pair : Type 0
Pair = ℕ × List ℤ

abbrev pub pair_of : IdealKey → Pair
pair_of k = (k.ambient, k.list)

both : (a b : Bool) → (a && b) ≡ true → (a ≡ true) × (b ≡ true)
both true b h = (refl, h)
both false b h = absurd (cc)

same_pairs : (a b : IdealKey) → (same_ideal_key a b ≡ true → pair_of a ≡ pair_of b) × (pair_of a ≡ pair_of b → same_ideal_key a b ≡ true)
same_pairs a b = (
  (λ h. let t = both (nat_eq a.ambient b.ambient) (pointwise int_eq a.list b.list) h in ap₂ (λ n zs. (n, zs)) ((Decides-eqb a.ambient b.ambient).0 t.0) ((signed_items a.list b.list).0 t.1)),
  (λ e. ap₂ (λ p q. p && q) ((Decides-eqb a.ambient b.ambient).1 (ap (λ (p : Pair). p.0) e)) ((signed_items a.list b.list).1 (ap (λ (p : Pair). p.1) e))),
)

-- ---- the lists at ids

list_at-some : (lists : List (List ℕ)) (i : ℕ) → IsSome (slice_get lists i) → slice_get lists i ≡ Some (list_at lists i)
list_at-some [] i h = absurd (cc)
list_at-some (x ∷ xs) zero h = refl
list_at-some (x ∷ xs) (suc i) h = list_at-some xs i h

-- lists that go on to stand where they stood
abbrev pub Grows : List (List ℕ) → List (List ℕ) → Type 0
Grows old new = (i : ℕ) (gens : List ℕ) → slice_get old i ≡ Some gens → slice_get new i ≡ Some gens

list_at-grows : (old new : List (List ℕ)) → Grows old new → (i : ℕ) → IsSome (slice_get old i) → list_at new i ≡ list_at old i
list_at-grows old new grows i h = ap (λ o. unwrap_or o []) (grows i (list_at old i) (list_at-some old i h))

ideal_of-grows : (old new : List (List ℕ)) → Grows old new → (k : IdealKey) → IsFitKey old k → ideal_of new k ≡ ideal_of old k
ideal_of-grows old new grows k fit = ap (λ (l : List ℕ). record { ambient = l; generators = k.list }) (list_at-grows old new grows k.ambient fit.ambient)

ideals_of-grows : (old new : List (List ℕ)) → Grows old new → (keys : List IdealKey) → AllIdealsFit old keys → ideals_of new keys ≡ ideals_of old keys
ideals_of-grows old new grows [] all = refl
ideals_of-grows old new grows (k ∷ ks) all = ap₂ (λ (i : RelativeIdeal) is. i ∷ is) (ideal_of-grows old new grows k (all 0 k refl)) (ideals_of-grows old new grows ks (λ i x h. all (suc i) x h))

pub ideals_fit-grows : (old new : List (List ℕ)) → Grows old new → (keys : List IdealKey) → AllIdealsFit old keys → AllIdealsFit new keys
ideals_fit-grows old new grows keys all i k at =
    let fit = all i k at in
    record {
      ambient = ap is_some (grows k.ambient (list_at old k.ambient) (list_at-some old k.ambient fit.ambient));
      fit = subst IsLawfulRelative (sym (ideal_of-grows old new grows k fit)) fit.fit;
    }

-- ---- distinct things

module _ (keys : List Key) (distinct : IsDistinct same_key keys) (ideal_keys : List IdealKey) (fit : AllIdealsFit (lists_of keys) ideal_keys) (ideals_distinct : IsDistinct same_ideal_key ideal_keys) where
  lists_injective : (i j : ℕ) (gens : List ℕ) → slice_get (lists_of keys) i ≡ Some gens → slice_get (lists_of keys) j ≡ Some gens → i ≡ j
  lists_injective = injective (λ (k : Key). k.list) same_key same_lists keys distinct

  -- keys of the same ideal are the same
  pub same_ideal : (a b : IdealKey) → IsSome (slice_get (lists_of keys) a.ambient) → IsSome (slice_get (lists_of keys) b.ambient) → ideal_of (lists_of keys) a ≡ ideal_of (lists_of keys) b → pair_of a ≡ pair_of b
  same_ideal a b known_a known_b e =
      let lists = lists_of keys in
      let lists_same : list_at lists a.ambient ≡ list_at lists b.ambient = ap (λ (i : RelativeIdeal). i.ambient) e in
      let places : a.ambient ≡ b.ambient = lists_injective a.ambient b.ambient (list_at lists a.ambient) (list_at-some lists a.ambient known_a) (list_at-some lists b.ambient known_b ∙ ap Some (sym lists_same)) in
      let gens : a.list ≡ b.list = ap (λ (i : RelativeIdeal). i.generators) e in
      ap₂ (λ n zs. (n, zs)) places gens

  pub known_distinct : AreDistinct (named (known_by keys ideal_keys))
  known_distinct semigroups i j gens h k = lists_injective i j gens h k
  known_distinct ideals i j thing h k =
      let at_i = key_at (ideal_of (lists_of keys)) ideal_keys i thing h in
      let at_j = key_at (ideal_of (lists_of keys)) ideal_keys j thing k in
      let pairs = same_ideal at_i.0 at_j.0 (fit i at_i.0 at_i.1).ambient (fit j at_j.0 at_j.1).ambient (at_i.2 ∙ sym at_j.2) in
      injective pair_of same_ideal_key same_pairs ideal_keys ideals_distinct i j (pair_of at_i.0) (thing_of_key pair_of ideal_keys i at_i.0 at_i.1) (thing_of_key pair_of ideal_keys j at_j.0 at_j.1 ∙ ap Some (sym pairs))

-- ---- a semigroup

module _ (keys : List Key) (k : Key) (ideal_keys : List IdealKey) where
  pub lists_grow : Grows (lists_of keys) (lists_of (insert_key same_key keys k))
  lists_grow = kept same_key keys k (λ (x : Key). x.list)

  pub fit_inserted : AllFit keys → IsLawfulList k.list → AllFit (insert_key same_key keys k)
  fit_inserted all fit i gens h =
      let at = key_at (λ (x : Key). x.list) (insert_key same_key keys k) i gens h in
      by at.0 (old_or_inserted same_key keys k i at.0 at.1) at.2
    where
      by : (x : Key) → (slice_get keys i ≡ Some x) ⊎ (k ≡ x) → x.list ≡ gens → IsLawfulList gens
      by x (inl h) e = all i gens (thing_of_key (λ (y : Key). y.list) keys i x h ∙ ap Some e)
      by x (inr h) e = subst IsLawfulList (ap (λ (y : Key). y.list) h ∙ e) fit

  module _ (ideals_fit : AllIdealsFit (lists_of keys) ideal_keys) where
    same_ideals : ideals_of (lists_of (insert_key same_key keys k)) ideal_keys ≡ ideals_of (lists_of keys) ideal_keys
    same_ideals = ideals_of-grows (lists_of keys) (lists_of (insert_key same_key keys k)) lists_grow ideal_keys ideals_fit

    pub keeps_inserted : Keeps (known_by keys ideal_keys) (known_by (insert_key same_key keys k) ideal_keys)
    keeps_inserted semigroups i gens h = lists_grow i gens h
    keeps_inserted ideals i thing h = subst (λ (l : List RelativeIdeal). slice_get l i ≡ Some thing) (sym same_ideals) h

    only_inserted : (known_by (insert_key same_key keys k) ideal_keys ≡ known_by keys ideal_keys) ⊎ (known_by (insert_key same_key keys k) ideal_keys ≡ with_semigroup (known_by keys ideal_keys) k.list)
    only_inserted = by (only same_key keys k)
      where
        by : (insert_key same_key keys k ≡ keys) ⊎ (insert_key same_key keys k ≡ keys ++ k ∷ [])
            → (known_by (insert_key same_key keys k) ideal_keys ≡ known_by keys ideal_keys) ⊎ (known_by (insert_key same_key keys k) ideal_keys ≡ with_semigroup (known_by keys ideal_keys) k.list)
        by (inl e) = inl (ap (λ l. known_by l ideal_keys) e)
        by (inr e) = inr (ap₂ (λ (l : List (List ℕ)) (is : List RelativeIdeal). record { semigroups = l; ideals = is }) (ap lists_of e ∙ map-append (λ (x : Key). x.list) keys (k ∷ [])) same_ideals)

    pub interned : (found_key : Key) (id : ℕ) → slice_get (insert_key same_key keys k) id ≡ Some found_key → same_key k found_key ≡ true
        → IsDistinct same_key (insert_key same_key keys k) → IsInterned (known_by keys ideal_keys) (known_by (insert_key same_key keys k) ideal_keys) k.list id
    interned found_key id at e distinct = record {
      stands = stands (λ (x : Key). x.list) same_key same_lists keys k found_key id at e;
      known = λ i h. (
        old_place (λ (x : Key). x.list) same_key same_lists keys k found_key id at e distinct i h,
        ap (λ l. known_by l ideal_keys) (unchanged (λ (x : Key). x.list) same_key same_lists keys k i h),
      );
      only = only_inserted;
      keeps = keeps_inserted;
    }

-- ---- an ideal

module _ (keys : List Key) (distinct : IsDistinct same_key keys) (ideal_keys : List IdealKey) (fit : AllIdealsFit (lists_of keys) ideal_keys) (k : IdealKey) (known : IsFitKey (lists_of keys) k) where
  pub ideals_fit_inserted : AllIdealsFit (lists_of keys) (insert_key same_ideal_key ideal_keys k)
  ideals_fit_inserted i x at = by (old_or_inserted same_ideal_key ideal_keys k i x at)
    where
      by : (slice_get ideal_keys i ≡ Some x) ⊎ (k ≡ x) → IsFitKey (lists_of keys) x
      by (inl h) = fit i x h
      by (inr e) = subst (IsFitKey (lists_of keys)) e known

  pub keeps_ideal : Keeps (known_by keys ideal_keys) (known_by keys (insert_key same_ideal_key ideal_keys k))
  keeps_ideal semigroups i gens h = h
  keeps_ideal ideals i thing h = kept same_ideal_key ideal_keys k (ideal_of (lists_of keys)) i thing h

  only_ideal : (known_by keys (insert_key same_ideal_key ideal_keys k) ≡ known_by keys ideal_keys) ⊎ (known_by keys (insert_key same_ideal_key ideal_keys k) ≡ with_ideal (known_by keys ideal_keys) (ideal_of (lists_of keys) k))
  only_ideal = by (only same_ideal_key ideal_keys k)
    where
      by : (insert_key same_ideal_key ideal_keys k ≡ ideal_keys) ⊎ (insert_key same_ideal_key ideal_keys k ≡ ideal_keys ++ k ∷ [])
          → (known_by keys (insert_key same_ideal_key ideal_keys k) ≡ known_by keys ideal_keys) ⊎ (known_by keys (insert_key same_ideal_key ideal_keys k) ≡ with_ideal (known_by keys ideal_keys) (ideal_of (lists_of keys) k))
      by (inl e) = inl (ap (known_by keys) e)
      by (inr e) = inr (ap (λ (is : List RelativeIdeal). record { semigroups = lists_of keys; ideals = is }) (ap (ideals_of (lists_of keys)) e ∙ map-append (ideal_of (lists_of keys)) ideal_keys (k ∷ [])))

  -- the pair of an ideal that is known
  pair_at : IsDistinct same_ideal_key ideal_keys → (j : ℕ) → slice_get (ideals_of (lists_of keys) ideal_keys) j ≡ Some (ideal_of (lists_of keys) k) → slice_get (map pair_of ideal_keys) j ≡ Some (pair_of k)
  pair_at ideals_distinct j h =
      let at = key_at (ideal_of (lists_of keys)) ideal_keys j (ideal_of (lists_of keys) k) h in
      let pairs = same_ideal keys distinct ideal_keys fit ideals_distinct at.0 k (fit j at.0 at.1).ambient known.ambient at.2 in
      thing_of_key pair_of ideal_keys j at.0 at.1 ∙ ap Some pairs

  pub ideal_interned : (found_key : IdealKey) (id : ℕ) → slice_get (insert_key same_ideal_key ideal_keys k) id ≡ Some found_key → same_ideal_key k found_key ≡ true
      → IsDistinct same_ideal_key ideal_keys → IsDistinct same_ideal_key (insert_key same_ideal_key ideal_keys k)
      → IsIdealInterned (known_by keys ideal_keys) (known_by keys (insert_key same_ideal_key ideal_keys k)) (ideal_of (lists_of keys) k) id
  ideal_interned found_key id at e before after = record {
    stands = thing_of_key (ideal_of (lists_of keys)) (insert_key same_ideal_key ideal_keys k) id found_key at ∙ ap Some (same_thing (sym ((same_pairs k found_key).0 e)));
    known = λ j h. (
      old_place pair_of same_ideal_key same_pairs ideal_keys k found_key id at e after j (pair_at before j h),
      ap (known_by keys) (unchanged pair_of same_ideal_key same_pairs ideal_keys k j (pair_at before j h)),
    );
    only = only_ideal;
    keeps = keeps_ideal;
  }
    where
      same_thing : pair_of found_key ≡ pair_of k → ideal_of (lists_of keys) found_key ≡ ideal_of (lists_of keys) k
      same_thing p = ap (λ (q : Pair). record { ambient = list_at (lists_of keys) q.0; generators = q.1 }) p

-- the key at an id is that of the ideal there
pub key_of : (keys : List Key) (ideal_keys : List IdealKey) (id : ℕ) (k : IdealKey) → slice_get ideal_keys id ≡ Some k → IsFitKey (lists_of keys) k → IsKeyOf (known_by keys ideal_keys) id k
key_of keys ideal_keys id k at fit =
    let thing : slice_get (ideals_of (lists_of keys) ideal_keys) id ≡ Some (ideal_of (lists_of keys) k) = thing_of_key (ideal_of (lists_of keys)) ideal_keys id k at in
    let is : thing_at (named (known_by keys ideal_keys)) ideals id ≡ ideal_of (lists_of keys) k = ap (λ o. unwrap_or o (nothing ideals)) thing in
    record {
      ambient = list_at-some (lists_of keys) k.ambient fit.ambient ∙ ap (λ (i : RelativeIdeal). Some i.ambient) (sym is);
      generators = ap (λ (i : RelativeIdeal). i.generators) (sym is);
      fit = subst IsLawfulRelative (sym is) fit.fit;
    }
