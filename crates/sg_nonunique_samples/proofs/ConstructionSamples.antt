-- What is counted where a semigroup is made of [3], [2] and [3]: one vector for [2], and two for [3].
use Rattle.std.proofs.Common.{◌≡◌, ◌≢◌, ℕ, zero, suc, ◌+◌, ◌*◌, ◌<◌, ◌≤◌, List, [], ◌∷◌, length, get_or, refl, sym, ap, subst, ◌∙◌, inl, inr, arith}
use Rattle.std.specs.Prelude.{◌⊎◌, ◌↔◌, All, AllPairs, Contains, remove, slice_index_or}
use Rattle.std.proofs.lemmas.List.Elements.{All-nil, All-cons}
use Rattle.std.proofs.lemmas.List.Kept.{AllPairs-cons}
use Rattle.sg_defs.specs.Vectors.{IsBelow, IsLexBelow, ListsAscending}
use Rattle.sg_nonunique.specs.Affine.{vector_value_of}
use Rattle.sg_nonunique.specs.Costs.{IsConstructionItem, IsPartial}
use Rattle.sg_nonunique.specs.Counts.{Exceeds}
use Rattle.sg_laws_finite.proofs.CountLemmas.{exceeds-from_listing, listing-from_exceeds}
use Rattle.sg_laws_finite.proofs.ElementLemmas.{here, later, pairs-nil}
use Rattle.sg_laws_finite.proofs.OneListLemmas.{one-ascending}
use Rattle.sg_nonunique_samples.proofs.KnownLists.{two-of, three-of}

abbrev given : List (List ℕ)
given = (3 ∷ []) ∷ (2 ∷ []) ∷ (3 ∷ []) ∷ []

abbrev different : List (List ℕ)
different = (2 ∷ []) ∷ (3 ∷ []) ∷ []

given-different : ListsAscending (Contains given) different
given-different = record {
  ascending = AllPairs-cons IsLexBelow (2 ∷ []) ((3 ∷ []) ∷ []) (All-cons (IsLexBelow (2 ∷ [])) (3 ∷ []) [] (inl (omega arith)) (All-nil (IsLexBelow (2 ∷ []))))
      (AllPairs-cons IsLexBelow (3 ∷ []) [] (All-nil (IsLexBelow (3 ∷ []))) (pairs-nil IsLexBelow));
  exactly = λ z. (to z, from z);
}
  where
    to : (z : List ℕ) → Contains different z → Contains given z
    to z h = elim (two-of (2 ∷ []) (3 ∷ []) z h) [
      | inl e ↦ subst (Contains given) (sym e) (1, omega arith, refl)
      | inr e ↦ subst (Contains given) (sym e) (0, omega arith, refl)
    ]

    from : (z : List ℕ) → Contains given z → Contains different z
    from z h = elim (three-of (3 ∷ []) (2 ∷ []) (3 ∷ []) z h) [
      | inl e ↦ subst (Contains different) (sym e) (1, omega arith, refl)
      | inr other ↦ elim other [
        | inl e ↦ subst (Contains different) (sym e) (0, omega arith, refl)
        | inr e ↦ subst (Contains different) (sym e) (1, omega arith, refl)
      ]
    ]

-- ---- the vectors with one place

one-below : (a b : ℕ) → a ≤ b → IsBelow (a ∷ []) (b ∷ [])
one-below a b l = (refl, at)
  where
    at : (k : ℕ) → get_or (a ∷ []) k 0 ≤ get_or (b ∷ []) k 0
    at zero = l
    at (suc k) = omega arith

partial-one : (g v a : ℕ) → a * g ≤ v → IsPartial 1 ((g ∷ []) ∷ []) (v ∷ []) (a ∷ [])
partial-one g v a l = record { places = refl; below = one-below (a * g + 0) v (omega (arith, l)) }

one-partial : (g v : ℕ) (z : List ℕ) → IsPartial 1 ((g ∷ []) ∷ []) (v ∷ []) z → (a : ℕ) × (z ≡ a ∷ []) × (a * g ≤ v)
one-partial g v [] f = absurd (omega (arith, f.places))
one-partial g v (a ∷ []) f = (a, refl, omega (arith, f.below.1 0))
one-partial g v (a ∷ b ∷ z) f = absurd (omega (arith, f.places))

-- ---- the items

abbrev Item : Type 0
Item = List ℕ × List ℕ

abbrev items : List Item
items = (2 ∷ [], 0 ∷ []) ∷ (3 ∷ [], 0 ∷ []) ∷ (3 ∷ [], 1 ∷ []) ∷ []

-- the items of the vector at a place
item-at : (k : ℕ) → k < 2 → (v z : List ℕ) → v ≡ get_or different k [] → IsPartial (length v) (remove different k) v z → IsConstructionItem given (v, z)
item-at k l v z e f = record { different = different; is_different = given-different; place = k; in_range = l; vector = e; partial = f }

listed-item : (x : Item) → Contains items x → IsConstructionItem given x
listed-item x h = elim (three-of (2 ∷ [], 0 ∷ []) (3 ∷ [], 0 ∷ []) (3 ∷ [], 1 ∷ []) x h) [
  | inl e ↦ subst (IsConstructionItem given) (sym e) (item-at 0 (omega arith) (2 ∷ []) (0 ∷ []) refl (partial-one 3 2 0 (omega arith)))
  | inr other ↦ elim other [
    | inl e ↦ subst (IsConstructionItem given) (sym e) (item-at 1 (omega arith) (3 ∷ []) (0 ∷ []) refl (partial-one 2 3 0 (omega arith)))
    | inr e ↦ subst (IsConstructionItem given) (sym e) (item-at 1 (omega arith) (3 ∷ []) (1 ∷ []) refl (partial-one 2 3 1 (omega arith)))
  ]
]

pair-same : (x : Item) (v z : List ℕ) → x.0 ≡ v → x.1 ≡ z → x ≡ (v, z)
pair-same x v z e f = ap (λ u. (u, x.1)) e ∙ ap (λ u. (v, u)) f

from-place : (x : Item) (k : ℕ) → k < 2 → x.0 ≡ get_or different k [] → IsPartial (length x.0) (remove different k) x.0 x.1 → Contains items x
from-place x zero l e f =
    let p = one-partial 3 2 x.1 (subst (λ v. IsPartial (length v) ((3 ∷ []) ∷ []) v x.1) e f) in
    let a : p.0 ≡ 0 = omega (arith, p.2) in
    subst (Contains items) (sym (pair-same x (2 ∷ []) (0 ∷ []) e (p.1 ∙ ap (λ n. n ∷ []) a))) (0, omega arith, refl)
from-place x (suc zero) l e f =
    let p = one-partial 2 3 x.1 (subst (λ v. IsPartial (length v) ((2 ∷ []) ∷ []) v x.1) e f) in
    by p.0 p.1 p.2
  where
    by : (a : ℕ) → x.1 ≡ a ∷ [] → a * 2 ≤ 3 → Contains items x
    by zero g l = subst (Contains items) (sym (pair-same x (3 ∷ []) (0 ∷ []) e g)) (1, omega arith, refl)
    by (suc zero) g l = subst (Contains items) (sym (pair-same x (3 ∷ []) (1 ∷ []) e g)) (2, omega arith, refl)
    by (suc (suc a)) g l = absurd (omega arith)
from-place x (suc (suc k)) l e f = absurd (omega arith)

item-listed : (x : Item) → IsConstructionItem given x → Contains items x
item-listed x h =
    let same : h.different ≡ different = one-ascending (Contains given) h.different different h.is_different given-different in
    from-place x h.place (subst (λ l. h.place < length l) same h.in_range) (subst (λ l. x.0 ≡ get_or l h.place []) same h.vector)
    (subst (λ l. IsPartial (length x.0) (remove l h.place) x.0 x.1) same h.partial)

items-different : AllPairs (λ x y. x ≢ y) items
items-different =
    AllPairs-cons (λ x y. x ≢ y) (2 ∷ [], 0 ∷ []) ((3 ∷ [], 0 ∷ []) ∷ (3 ∷ [], 1 ∷ []) ∷ [])
    (All-cons (λ y. (2 ∷ [], 0 ∷ []) ≢ y) (3 ∷ [], 0 ∷ []) ((3 ∷ [], 1 ∷ []) ∷ []) (first 0) (All-cons (λ y. (2 ∷ [], 0 ∷ []) ≢ y) (3 ∷ [], 1 ∷ []) [] (first 1) (All-nil (λ y. (2 ∷ [], 0 ∷ []) ≢ y))))
    (AllPairs-cons (λ x y. x ≢ y) (3 ∷ [], 0 ∷ []) ((3 ∷ [], 1 ∷ []) ∷ [])
    (All-cons (λ y. (3 ∷ [], 0 ∷ []) ≢ y) (3 ∷ [], 1 ∷ []) [] second (All-nil (λ y. (3 ∷ [], 0 ∷ []) ≢ y)))
    (AllPairs-cons (λ x y. x ≢ y) (3 ∷ [], 1 ∷ []) [] (All-nil (λ y. (3 ∷ [], 1 ∷ []) ≢ y)) (pairs-nil (λ x y. x ≢ y))))
  where
    first : (n : ℕ) → ◌≡◌ {A = Item} (2 ∷ [], 0 ∷ []) (3 ∷ [], n ∷ []) → ⊥
    first n e = let f : ◌≡◌ {A = ℕ} 2 3 = ap (λ (x : Item). get_or x.0 0 0) e in omega arith

    second : ◌≡◌ {A = Item} (3 ∷ [], 0 ∷ []) (3 ∷ [], 1 ∷ []) → ⊥
    second e = let f : ◌≡◌ {A = ℕ} 0 1 = ap (λ (x : Item). get_or x.1 0 0) e in omega arith

pub above_2 : Exceeds (IsConstructionItem ((3 ∷ []) ∷ (2 ∷ []) ∷ (3 ∷ []) ∷ [])) 2
above_2 = exceeds-from_listing (IsConstructionItem given) items 2 (record { different = items-different; exactly = λ x. (listed-item x, item-listed x) }) (omega arith)

pub within_3 : Exceeds (IsConstructionItem ((3 ∷ []) ∷ (2 ∷ []) ∷ (3 ∷ []) ∷ [])) 3 → ⊥
within_3 h = let l : 3 < 3 = listing-from_exceeds (IsConstructionItem given) items 3 item-listed h in omega arith
