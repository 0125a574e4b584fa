-- The listing of all factorizations of a number is whole and descends.
use Rattle.std.proofs.Common.{◌≡◌, ℕ, zero, suc, ◌+◌, ◌-◌, ◌*◌, ◌/◌, ◌<◌, ◌≤◌, List, [], ◌∷◌, length, get_or, drop, refl, sym, ap, subst, inl, inr, arith}
use Rattle.std.specs.Prelude.{All, AllPairs, Contains}
use Rattle.std.proofs.lemmas.Nat.{le-div}
use Rattle.std.proofs.lemmas.List.Elements.{All-head, All-tail, All-nil}
use Rattle.std.proofs.lemmas.List.Kept.{AllPairs-cons}
use Rattle.std.proofs.Math.Nat.{div-mul-le_self, mul-le-mul_right}
use Rattle.sg_defs.specs.Vectors.{value_of, ListsDescending}
use Rattle.sg_defs.specs.Membership.{IsFactorization}
use Rattle.sg_defs.proofs.ListLemmas.{contains-cases}
use Rattle.sg_laws_finite.specs.Listing.{levels, all_factorizations}
use Rattle.sg_laws_finite.proofs.ElementLemmas.{contains-nil, here, pairs-nil}
use Rattle.sg_laws_finite.proofs.LevelLemmas.{IsLexAbove, from-levels, into-levels, levels-descending}

-- so often a number fits into another
times-below : (c g n : ℕ) → c < n / g + 1 → c * g ≤ n
times-below c g n l = omega (arith, mul-le-mul_right g (let m : c ≤ n / g = omega arith in m), div-mul-le_self n g)

listed-is_factorization : (G : List ℕ) (n : ℕ) (z : List ℕ) → Contains (all_factorizations G n) z → IsFactorization G n z
unfolding all_factorizations
listed-is_factorization [] zero z h = elim (contains-cases [] [] z h) [
  | inl e ↦ record { places = ap length (sym e); value = refl }
  | inr none ↦ absurd (contains-nil z none)
]
listed-is_factorization [] (suc n) z h = absurd (contains-nil z h)
listed-is_factorization (g ∷ G) n z h =
    let p = from-levels (λ c. all_factorizations G (n - c * g)) (n / g + 1) z h in
    let f = listed-is_factorization G (n - p.0 * g) p.1 p.4 in
    subst (IsFactorization (g ∷ G) n) (sym p.3) (record { places = omega (arith, f.places); value = omega (arith, f.value, times-below p.0 g n p.2) })

factorization-is_listed : (G : List ℕ) (n : ℕ) (z : List ℕ) → All (λ g. 1 ≤ g) G → IsFactorization G n z → Contains (all_factorizations G n) z
unfolding all_factorizations
factorization-is_listed [] zero [] p f = here [] []
factorization-is_listed [] zero (c ∷ z) p f = absurd (omega (arith, f.places))
factorization-is_listed [] (suc n) z p f = absurd (omega (arith, f.value))
factorization-is_listed (g ∷ G) n [] p f = absurd (omega (arith, f.places))
factorization-is_listed (g ∷ G) n (c ∷ z) p f =
    let rest : value_of G z ≡ n - c * g = omega (arith, f.value) in
    let top : c ≤ n / g = le-div c n g (omega (arith, All-head (λ g. 1 ≤ g) g G p)) (omega (arith, f.value)) in
    into-levels (λ c. all_factorizations G (n - c * g)) (n / g + 1) c z (omega arith)
    (factorization-is_listed G (n - c * g) z (All-tail (λ g. 1 ≤ g) g G p) (record { places = omega (arith, f.places); value = rest }))

listing-descends : (G : List ℕ) (n : ℕ) → AllPairs IsLexAbove (all_factorizations G n)
unfolding all_factorizations
listing-descends [] zero = AllPairs-cons IsLexAbove [] [] (All-nil (IsLexAbove [])) (pairs-nil IsLexAbove)
listing-descends [] (suc n) = pairs-nil IsLexAbove
listing-descends (g ∷ G) n = levels-descending (λ c. all_factorizations G (n - c * g)) (n / g + 1) (λ c. listing-descends G (n - c * g))

-- all factorizations by positive numbers, in descending order
pub factorizations-listed : (G : List ℕ) (n : ℕ) → All (λ g. 1 ≤ g) G → ListsDescending (IsFactorization G n) (all_factorizations G n)
factorizations-listed G n p = record {
  descending = listing-descends G n;
  exactly = λ z. (listed-is_factorization G n z, factorization-is_listed G n z p);
}

-- ---- the steps of a program

-- by no numbers: 0 has the empty factorization, and nothing else has one
pub all-zero : (G : List ℕ) (n : ℕ) → length G ≡ 0 → n ≡ 0 → all_factorizations G n ≡ [] ∷ []
unfolding all_factorizations
all-zero [] zero e l = refl
all-zero [] (suc n) e l = absurd (omega arith)
all-zero (g ∷ G) n e l = absurd (omega arith)

pub all-none : (G : List ℕ) (n : ℕ) → length G ≡ 0 → 0 < n → all_factorizations G n ≡ []
unfolding all_factorizations
all-none [] zero e l = absurd (omega arith)
all-none [] (suc n) e l = refl
all-none (g ∷ G) n e l = absurd (omega arith)

-- by the first number, as often as it fits, and by the others
pub all-first : (G : List ℕ) (n : ℕ) → 0 < length G →
    all_factorizations G n ≡ levels (λ c. all_factorizations (drop 1 G) (n - c * get_or G 0 0)) (n / get_or G 0 0 + 1)
unfolding all_factorizations
all-first [] n l = absurd (omega arith)
all-first (g ∷ G) n l = refl
