-- Vectors: the lexicographic order, and the factorizations of one number in their order.
use Rattle.std.proofs.Common.{◌≡◌, ℕ, zero, suc, ◌≤◌, List, [], ◌∷◌, get_or, refl, sym, ap, subst, ◌∙◌, inl, inr, arith}
use Rattle.std.specs.Prelude.{◌⊎◌, Contains}
use Rattle.std.proofs.lemmas.Bool.{cases_eq}
use Rattle.std.proofs.lemmas.List.Elements.{All-nil, All-cons}
use Rattle.sg_defs.specs.Membership.{IsFactorization}
use Rattle.sg_defs.specs.Vectors.{IsBelow, IsLexBelow, ListsAscending, ListsDescending}
use Rattle.sg_samples.proofs.SmallLemmas.{by_two, contained, here, later, pairs-cons, pairs-nil}

pub below : IsBelow (0 ∷ 2 ∷ []) (1 ∷ 2 ∷ [])
below = (refl, each)
  where
    each : (k : ℕ) → get_or (0 ∷ 2 ∷ []) k 0 ≤ get_or (1 ∷ 2 ∷ []) k 0
    each zero = omega arith
    each (suc zero) = omega arith
    each (suc (suc k)) = omega arith

-- 2 is above 1
pub not_below : IsBelow (2 ∷ 0 ∷ []) (1 ∷ 2 ∷ []) → ⊥
not_below h = omega (arith, h.1 0)

pub lower : IsLexBelow (0 ∷ 2 ∷ 0 ∷ []) (1 ∷ 0 ∷ 1 ∷ [])
lower = inl (omega arith)

pub not_lower : IsLexBelow (1 ∷ 0 ∷ 1 ∷ []) (0 ∷ 2 ∷ 0 ∷ []) → ⊥
not_lower (inl h) = omega arith
not_lower (inr h) = omega (arith, h.0)

-- ---- 15 = 5 * 3 = 3 * 5

fives : IsFactorization (3 ∷ 5 ∷ []) 15 (5 ∷ 0 ∷ [])
fives = record { places = refl; value = refl }

threes : IsFactorization (3 ∷ 5 ∷ []) 15 (0 ∷ 3 ∷ [])
threes = record { places = refl; value = refl }

either : (z : List ℕ) → IsFactorization (3 ∷ 5 ∷ []) 15 z → (z ≡ 5 ∷ 0 ∷ []) ⊎ (z ≡ 0 ∷ 3 ∷ [])
either z f =
    let p = by_two 3 5 15 z f in
    elim (cases_eq p.1 0) [
      | inl e ↦
          let a : p.0 ≡ 5 = omega (arith, p.3, e) in
          inl (p.2 ∙ ap (λ n. n ∷ p.1 ∷ []) a ∙ ap (λ n. 5 ∷ n ∷ []) e)
      | inr other ↦
          let b : p.1 ≡ 3 = omega (arith, p.3, other) in
          let a : p.0 ≡ 0 = omega (arith, p.3, b) in
          inr (p.2 ∙ ap (λ n. n ∷ p.1 ∷ []) a ∙ ap (λ n. 0 ∷ n ∷ []) b)
    ]

abbrev Above : List ℕ → List ℕ → Type 0
Above x y = IsLexBelow y x

-- the factorizations of 15, the greatest first
pub descending_fifteen : ListsDescending (IsFactorization (3 ∷ 5 ∷ []) 15) ((5 ∷ 0 ∷ []) ∷ (0 ∷ 3 ∷ []) ∷ [])
descending_fifteen = record {
  descending = pairs-cons Above (5 ∷ 0 ∷ []) ((0 ∷ 3 ∷ []) ∷ [])
      (All-cons (Above (5 ∷ 0 ∷ [])) (0 ∷ 3 ∷ []) [] (inl (omega arith)) (All-nil (Above (5 ∷ 0 ∷ []))))
      (pairs-cons Above (0 ∷ 3 ∷ []) [] (All-nil (Above (0 ∷ 3 ∷ []))) (pairs-nil Above));
  exactly = λ z. (
    contained (IsFactorization (3 ∷ 5 ∷ []) 15) ((5 ∷ 0 ∷ []) ∷ (0 ∷ 3 ∷ []) ∷ []) z
        (All-cons (IsFactorization (3 ∷ 5 ∷ []) 15) (5 ∷ 0 ∷ []) ((0 ∷ 3 ∷ []) ∷ []) fives (All-cons (IsFactorization (3 ∷ 5 ∷ []) 15) (0 ∷ 3 ∷ []) [] threes (All-nil (IsFactorization (3 ∷ 5 ∷ []) 15)))),
    λ f. there z (either z f),
  );
}
  where
    there : (z : List ℕ) → (z ≡ 5 ∷ 0 ∷ []) ⊎ (z ≡ 0 ∷ 3 ∷ []) → Contains ((5 ∷ 0 ∷ []) ∷ (0 ∷ 3 ∷ []) ∷ []) z
    there z (inl e) = subst (Contains ((5 ∷ 0 ∷ []) ∷ (0 ∷ 3 ∷ []) ∷ [])) (sym e) (here (5 ∷ 0 ∷ []) ((0 ∷ 3 ∷ []) ∷ []))
    there z (inr e) = subst (Contains ((5 ∷ 0 ∷ []) ∷ (0 ∷ 3 ∷ []) ∷ [])) (sym e) (later (5 ∷ 0 ∷ []) ((0 ∷ 3 ∷ []) ∷ []) (0 ∷ 3 ∷ []) (here (0 ∷ 3 ∷ []) []))

-- the least first
pub ascending_fifteen : ListsAscending (IsFactorization (3 ∷ 5 ∷ []) 15) ((0 ∷ 3 ∷ []) ∷ (5 ∷ 0 ∷ []) ∷ [])
ascending_fifteen = record {
  ascending = pairs-cons IsLexBelow (0 ∷ 3 ∷ []) ((5 ∷ 0 ∷ []) ∷ [])
      (All-cons (IsLexBelow (0 ∷ 3 ∷ [])) (5 ∷ 0 ∷ []) [] (inl (omega arith)) (All-nil (IsLexBelow (0 ∷ 3 ∷ []))))
      (pairs-cons IsLexBelow (5 ∷ 0 ∷ []) [] (All-nil (IsLexBelow (5 ∷ 0 ∷ []))) (pairs-nil IsLexBelow));
  exactly = λ z. (
    contained (IsFactorization (3 ∷ 5 ∷ []) 15) ((0 ∷ 3 ∷ []) ∷ (5 ∷ 0 ∷ []) ∷ []) z
        (All-cons (IsFactorization (3 ∷ 5 ∷ []) 15) (0 ∷ 3 ∷ []) ((5 ∷ 0 ∷ []) ∷ []) threes (All-cons (IsFactorization (3 ∷ 5 ∷ []) 15) (5 ∷ 0 ∷ []) [] fives (All-nil (IsFactorization (3 ∷ 5 ∷ []) 15)))),
    λ f. there z (either z f),
  );
}
  where
    there : (z : List ℕ) → (z ≡ 5 ∷ 0 ∷ []) ⊎ (z ≡ 0 ∷ 3 ∷ []) → Contains ((0 ∷ 3 ∷ []) ∷ (5 ∷ 0 ∷ []) ∷ []) z
    there z (inl e) = subst (Contains ((0 ∷ 3 ∷ []) ∷ (5 ∷ 0 ∷ []) ∷ [])) (sym e) (later (0 ∷ 3 ∷ []) ((5 ∷ 0 ∷ []) ∷ []) (5 ∷ 0 ∷ []) (here (5 ∷ 0 ∷ []) []))
    there z (inr e) = subst (Contains ((0 ∷ 3 ∷ []) ∷ (5 ∷ 0 ∷ []) ∷ [])) (sym e) (here (0 ∷ 3 ∷ []) ((5 ∷ 0 ∷ []) ∷ []))
