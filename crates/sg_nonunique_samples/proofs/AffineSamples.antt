-- The affine semigroup of [2] and [3].
use Rattle.std.proofs.Common.{◌≡◌, ◌≢◌, ℕ, zero, suc, ◌*◌, ◌<◌, List, [], ◌∷◌, length, get_or, refl, ap, subst, inl, inr, arith}
use Rattle.std.specs.Prelude.{remove}
use Rattle.std.proofs.lemmas.List.Elements.{All-nil, All-cons}
use Rattle.std.proofs.lemmas.List.Kept.{AllPairs-cons}
use Rattle.sg_defs.specs.Membership.{IsFactorization}
use Rattle.sg_defs.specs.Vectors.{IsLexBelow, ListsDescending}
use Rattle.sg_nonunique.specs.Affine.{vector_value_of, IsAffineSemigroup, IsMinimalAffine, IsVectorFactorization, IsVectorMember}
use Rattle.sg_nonunique.specs.Classes.{Share, IsSameClass, HasTwoClasses}
use Rattle.sg_laws_finite.proofs.ElementLemmas.{pairs-nil}
use Rattle.sg_nonunique_samples.proofs.KnownLists.{alone, by_two, two-of, six-of_two_three}

abbrev pub A : List (List ℕ)
A = (2 ∷ []) ∷ (3 ∷ []) ∷ []

-- a factorization of [n] is one of n
pub to-number : (z : List ℕ) (n : ℕ) → IsVectorFactorization 1 ((2 ∷ []) ∷ (3 ∷ []) ∷ []) (n ∷ []) z → IsFactorization (2 ∷ 3 ∷ []) n z
to-number [] n f = absurd (omega (arith, f.places))
to-number (a ∷ []) n f = absurd (omega (arith, f.places))
to-number (a ∷ b ∷ []) n f = record { places = refl; value = omega (arith, ap (λ v. get_or v 0 0) f.value) }
to-number (a ∷ b ∷ c ∷ z) n f = absurd (omega (arith, f.places))

pub from-number : (z : List ℕ) (n : ℕ) → IsFactorization (2 ∷ 3 ∷ []) n z → IsVectorFactorization 1 ((2 ∷ []) ∷ (3 ∷ []) ∷ []) (n ∷ []) z
from-number [] n f = absurd (omega (arith, f.places))
from-number (a ∷ []) n f = absurd (omega (arith, f.places))
from-number (a ∷ b ∷ []) n f = record { places = refl; value = ap (λ m. m ∷ []) (let e : get_or (vector_value_of 1 A (a ∷ b ∷ [])) 0 0 ≡ n = omega (arith, f.value) in e) }
from-number (a ∷ b ∷ c ∷ z) n f = absurd (omega (arith, f.places))

pub six : ListsDescending (IsVectorFactorization 1 ((2 ∷ []) ∷ (3 ∷ []) ∷ []) (6 ∷ [])) ((3 ∷ 0 ∷ []) ∷ (0 ∷ 2 ∷ []) ∷ [])
six = record {
  descending = six-of_two_three.descending;
  exactly = λ z. ((λ h. from-number z 6 ((six-of_two_three.exactly z).0 h)), (λ f. (six-of_two_three.exactly z).1 (to-number z 6 f)));
}

abbrev Six : List ℕ → Type 0
Six = IsVectorFactorization 1 ((2 ∷ []) ∷ (3 ∷ []) ∷ []) (6 ∷ [])

pub two_classes : HasTwoClasses (IsVectorFactorization 1 ((2 ∷ []) ∷ (3 ∷ []) ∷ []) (6 ∷ []))
two_classes = (3 ∷ 0 ∷ [], 0 ∷ 2 ∷ [], record { places = refl; value = refl }, record { places = refl; value = refl }, apart)
  where
    only : (p : List ℕ) → Six p → Share (3 ∷ 0 ∷ []) p → p ≡ 3 ∷ 0 ∷ []
    only p f s = elim (two-of (3 ∷ 0 ∷ []) (0 ∷ 2 ∷ []) p ((six.exactly p).1 f)) [
      | inl e ↦ e
      | inr e ↦ absurd (none (subst (Share (3 ∷ 0 ∷ [])) e s))
    ]
      where
        at : (k : ℕ) → 0 < get_or (3 ∷ 0 ∷ []) k 0 → 0 < get_or (0 ∷ 2 ∷ []) k 0 → ⊥
        at zero h l = omega arith
        at (suc zero) h l = omega arith
        at (suc (suc k)) h l = omega arith

        none : Share (3 ∷ 0 ∷ []) (0 ∷ 2 ∷ []) → ⊥
        none s = at s.0 s.1 s.2

    apart : IsSameClass Six (3 ∷ 0 ∷ []) (0 ∷ 2 ∷ []) → ⊥
    apart s = let f : ◌≡◌ {A = ℕ} 0 3 = ap (λ z. get_or z 0 0) (alone Six (3 ∷ 0 ∷ []) only s.0 (0 ∷ 2 ∷ []) s.1) in omega arith

pub not_one : IsVectorMember 1 ((2 ∷ []) ∷ (3 ∷ []) ∷ []) (1 ∷ []) → ⊥
not_one h = let p = by_two 2 3 1 h.0 (to-number h.0 1 h.1) in omega (arith, p.3)

-- ---- minimal lists

pub two_three : IsAffineSemigroup 1 ((2 ∷ []) ∷ (3 ∷ []) ∷ [])
two_three = record {
  not_empty = omega arith;
  dimension = All-cons (λ a. length a ≡ 1) (2 ∷ []) ((3 ∷ []) ∷ []) refl (All-cons (λ a. length a ≡ 1) (3 ∷ []) [] refl (All-nil (λ a. length a ≡ 1)));
  nonzero = All-cons (λ a. a ≢ 0 ∷ []) (2 ∷ []) ((3 ∷ []) ∷ []) (other 2 (omega arith))
      (All-cons (λ a. a ≢ 0 ∷ []) (3 ∷ []) [] (other 3 (omega arith)) (All-nil (λ a. a ≢ 0 ∷ [])));
}
  where
    other : (n : ℕ) → 0 < n → n ∷ [] ≢ 0 ∷ []
    other n l e = omega (arith, ap (λ v. get_or v 0 0) e)

one-multiple : (g n : ℕ) → IsVectorMember 1 ((g ∷ []) ∷ []) (n ∷ []) → (a : ℕ) × (a * g ≡ n)
one-multiple g n h = at h.0 h.1.places h.1.value
  where
    at : (z : List ℕ) → length z ≡ 1 → vector_value_of 1 ((g ∷ []) ∷ []) z ≡ n ∷ [] → (a : ℕ) × (a * g ≡ n)
    at [] e f = absurd (omega arith)
    at (a ∷ []) e f = (a, omega (arith, ap (λ v. get_or v 0 0) f))
    at (a ∷ b ∷ z) e f = absurd (omega arith)

pub minimal : IsMinimalAffine 1 ((2 ∷ []) ∷ (3 ∷ []) ∷ [])
minimal = record {
  semigroup = two_three;
  ascending = AllPairs-cons IsLexBelow (2 ∷ []) ((3 ∷ []) ∷ []) (All-cons (IsLexBelow (2 ∷ [])) (3 ∷ []) [] (inl (omega arith)) (All-nil (IsLexBelow (2 ∷ []))))
      (AllPairs-cons IsLexBelow (3 ∷ []) [] (All-nil (IsLexBelow (3 ∷ []))) (pairs-nil IsLexBelow));
  needed = needed;
}
  where
    needed : (k : ℕ) → k < 2 → IsVectorMember 1 (remove ((2 ∷ []) ∷ (3 ∷ []) ∷ []) k) (get_or ((2 ∷ []) ∷ (3 ∷ []) ∷ []) k []) → ⊥
    needed zero l h = let p = one-multiple 3 2 h in omega (arith, p.1)
    needed (suc zero) l h = let p = one-multiple 2 3 h in omega (arith, p.1)
    needed (suc (suc k)) l h = absurd (omega arith)

-- [5] = [2] + [3]
pub five-spare : IsMinimalAffine 1 ((2 ∷ []) ∷ (3 ∷ []) ∷ (5 ∷ []) ∷ []) → ⊥
five-spare m = m.needed 2 (omega arith) (1 ∷ 1 ∷ [], record { places = refl; value = refl })
