-- Values that name semigroups of a store.
use Rattle.std.proofs.Common.{◌≡◌, ◌+◌, ◌<◌, ◌≤◌, ℕ, List, [], ◌∷◌, ◌++◌, length, get_or, take, Some, map, unwrap_or, is_some, refl, ap, ap₂, sym, ◌∙◌, subst}
use Rattle.std.proofs.lemmas.List.{take_more, take_all}
use Rattle.sg_value.specs.Data.{semigroup, items_of, item, data_map, EachThing, semigroups}
use Rattle.sg_value.specs.Plain.{Named, IsKept, IsKnown, AllKnownIn, contents, plain_of_all, thing_at}
use Rattle.sg_value.specs.declared.value.Value.{Value}
use Rattle.sg_value.specs.declared.value.Value.TheVariants as value

-- value k is the semigroup with list k
abbrev pub Name : Named → List Value → List (List ℕ) → Type 0
Name names [] [] = Unit {0}
Name names [] (M ∷ L) = ⊥
Name names (v ∷ vs) [] = ⊥
Name names (v ∷ vs) (M ∷ L) = ((id : ℕ) × (contents v ≡ semigroup id) × (names semigroups id ≡ Some M)) × Name names vs L

-- one more name, put last
pub name-push : (names : Named) (vs : List Value) (L : List (List ℕ)) (v : Value) (M : List ℕ) (id : ℕ) → Name names vs L → contents v ≡ semigroup id → names semigroups id ≡ Some M → Name names (vs ++ v ∷ []) (L ++ M ∷ [])
name-push names [] [] v M id h is at = ((id, is, at), tt)
name-push names [] (K ∷ L) v M id h is at = absurd h
name-push names (w ∷ vs) [] v M id h is at = absurd h
name-push names (w ∷ vs) (K ∷ L) v M id h is at = (h.0, name-push names vs L v M id h.1 is at)

-- names over a store that grew
pub name-kept : (old new : Named) (vs : List Value) (L : List (List ℕ)) → IsKept old new → Name old vs L → Name new vs L
name-kept old new [] [] kept h = tt
name-kept old new [] (K ∷ L) kept h = absurd h
name-kept old new (w ∷ vs) [] kept h = absurd h
name-kept old new (w ∷ vs) (K ∷ L) kept h = ((h.0.0, h.0.1, kept semigroups h.0.0 K h.0.2), name-kept old new vs L kept h.1)

-- what the names stand for
pub name-plain : (names : Named) (vs : List Value) (L : List (List ℕ)) → Name names vs L → plain_of_all names vs ≡ items_of (map semigroup L)
name-plain names [] [] h = refl
name-plain names [] (K ∷ L) h = absurd h
name-plain names (w ∷ vs) [] h = absurd h
name-plain names (w ∷ vs) (K ∷ L) h =
    ap₂ item (ap (data_map (thing_at names)) h.0.1 ∙ ap (λ o. semigroup (unwrap_or o [])) h.0.2) (name-plain names vs L h.1)

-- each is known
pub name-known : (names : Named) (vs : List Value) (L : List (List ℕ)) → Name names vs L → AllKnownIn names vs
name-known names [] [] h = tt
name-known names [] (K ∷ L) h = absurd h
name-known names (w ∷ vs) [] h = absurd h
name-known names (w ∷ vs) (K ∷ L) h = (subst (EachThing (IsKnown names)) (sym h.0.1) (ap is_some h.0.2), name-known names vs L h.1)

-- a store that grew twice
pub kept-on : (one two three : Named) → IsKept one two → IsKept two three → IsKept one three
kept-on one two three h k = λ j i thing at. k j i thing (h j i thing at)

-- one more name
pub name-more : (old new : Named) (vs ws : List Value) (L : List (List ℕ)) (i id : ℕ) (M N : List ℕ) → Name old vs (take i L) → IsKept old new → i < length L → M ≡ get_or L i M → N ≡ M → new semigroups id ≡ Some N → ws ≡ vs ++ value.Sem id ∷ []
    → Name new ws (take (i + 1) L)
name-more old new vs ws L i id M N h kept within is same at pushed =
    let longer = name-push new vs (take i L) (value.Sem id) M id (name-kept old new vs (take i L) kept h) refl (at ∙ ap Some same) in
    let rows : take (i + 1) L ≡ take i L ++ M ∷ [] = take_more L i M within ∙ ap (λ x. take i L ++ x ∷ []) (sym is) in
    subst (λ l. Name new ws l) (sym rows) (subst (λ l. Name new l (take i L ++ M ∷ [])) (sym pushed) longer)

-- all names
pub name-all : (names : Named) (vs : List Value) (L : List (List ℕ)) (i : ℕ) → length L ≤ i → Name names vs (take i L) → Name names vs L
name-all names vs L i past h = subst (Name names vs) (take_all i L past) h
