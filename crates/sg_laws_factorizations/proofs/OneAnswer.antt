-- An element, and a semigroup, has at most one of each answer.
use Rattle.std.proofs.Common.{◌≡◌, ℕ, ◌+◌, ◌*◌, ◌<◌, ◌≤◌, List, [], ◌∷◌, sum, refl, sym, ap, subst, ◌∙◌, inl, inr, arith}
use Rattle.std.specs.Prelude.{ℤ, Option, None, Some}
use Rattle.std.specs.Int.{◌∣◌, IsGcd}
use Rattle.std.proofs.lemmas.Bool.{cases_lt}
use Rattle.std.proofs.lemmas.List.Sums.{sum_by-cons}
use Rattle.std.proofs.lemmas.Nat.Gcd.{IsGcd-swap, dvd_antisymm}
use Rattle.std.proofs.Math.Nat.{dvd-mul_right, mul-le-mul_left}
use Rattle.sg_defs.specs.Listings.{Lists}
use Rattle.sg_defs.specs.Membership.{IsFactorization}
use Rattle.sg_defs.specs.Vectors.{value_of}
use Rattle.sg_nonunique.specs.Catenary.{IsCatenary, IsCatenaryOf}
use Rattle.sg_nonunique.specs.Classes.{HasTwoClasses}
use Rattle.sg_nonunique.specs.Deltas.{IsDelta, IsMaxDelta, IsMinDelta}
use Rattle.sg_nonunique.specs.Elasticity.{IsElasticity}
use Rattle.sg_nonunique.specs.Factorizations.{AreFactorizations, IsIntegerFactorization, IsLengthIn}
use Rattle.sg_nonunique.specs.Omega.{IsOmega, IsOmegaOfSemigroup}
use Rattle.sg_nonunique.specs.Presentations.{IsCanonical, Relation}
use Rattle.sg_classes.proofs.OneListLemmas.{one-list}
use Rattle.sg_laws_finite.proofs.OneListLemmas.{one-descending}
use Rattle.sg_laws_families.proofs.CanonicalLemmas.{one-canonical}
use Rattle.sg_laws_families.proofs.GcdLemmas.{divides-other}
use Rattle.sg_omega.proofs.MinimalLemmas.{one-omega as one_omega}

-- ---- of an element

pub one-factorizations : (G : List ℕ) (x : ℤ) (l m : List (List ℕ)) → AreFactorizations G x l → AreFactorizations G x m → l ≡ m
one-factorizations G x = one-descending (IsIntegerFactorization G x)

pub one-lengths : (G : List ℕ) (x : ℤ) (l m : List ℕ) → Lists (IsLengthIn (IsIntegerFactorization G x)) l → Lists (IsLengthIn (IsIntegerFactorization G x)) m → l ≡ m
one-lengths G x = one-list (IsLengthIn (IsIntegerFactorization G x))

pub one-deltas : (G : List ℕ) (x : ℤ) (l m : List ℕ) → Lists (IsDelta (IsIntegerFactorization G x)) l → Lists (IsDelta (IsIntegerFactorization G x)) m → l ≡ m
one-deltas G x = one-list (IsDelta (IsIntegerFactorization G x))

pub one-catenary_of : (V : List ℕ → Type 0) (c d : ℕ) → IsCatenaryOf V c → IsCatenaryOf V d → c ≡ d
one-catenary_of V c d h k = elim (cases_lt c d) [
  | inl less ↦ absurd (k.least c less h.chained)
  | inr more ↦ elim (cases_lt d c) [ inl less ↦ absurd (h.least d less k.chained) | inr same ↦ omega arith ]
]

pub one-omega : (G : List ℕ) (n M N : ℕ) → IsOmega G n M → IsOmega G n N → M ≡ N
one-omega G n M N = one_omega G n M N

-- ---- of a semigroup

-- no length, no value
value-none : (G z : List ℕ) → sum z ≡ 0 → value_of G z ≡ 0
value-none [] z e = refl
value-none (g ∷ G) [] e = refl
value-none (g ∷ G) (c ∷ z) e =
    let head : c ≡ 0 = omega (arith, e, sum_by-cons (λ n. n) c z) in
    let rest = value-none G z (omega (arith, e, sum_by-cons (λ n. n) c z)) in
    let first : c * g ≡ 0 = ap (λ n. n * g) head ∙ (let zero_times : 0 * g ≡ 0 = omega arith in zero_times) in
    omega (arith, first, rest)

-- the one quotient is at most the other
quotient-most : (G : List ℕ) (p q s t : ℕ) → IsElasticity G p q → IsElasticity G s t → p * t ≤ s * q
quotient-most G p q s t h k =
    let r = h.reached in
    let X = sum r.2 in
    let Y = sum r.3 in
    let some : 0 < Y = elim (cases_lt 0 Y) [ inl more ↦ more | inr none ↦ absurd (omega (arith, r.1, (r.5).value, value-none G r.3 (omega arith))) ] in
    let bound : t * X ≤ s * Y = k.bound r.0 r.2 r.3 r.1 r.4 r.5 in
    quotients p q s t X Y some r.6 bound
  where
    quotients : (p q s t X Y : ℕ) → 0 < Y → q * X ≡ p * Y → t * X ≤ s * Y → p * t ≤ s * q
    quotients p q s t X Y some e l = elim (cases_lt (s * q) (p * t)) [
      | inr most ↦ most
      | inl less ↦
          let more : s * q + 1 ≤ p * t = omega arith in
          absurd (omega (arith, some, ap (λ v. t * v) e, mul-le-mul_left q l, mul-le-mul_left Y more))
    ]

-- quotients in lowest terms that are equal have equal terms
same-terms : (p q s t : ℕ) → IsGcd p q 1 → IsGcd s t 1 → p * t ≡ s * q → p ≡ s
same-terms p q s t h k e = dvd_antisymm
    (divides-other p q s h (subst (λ n. p ∣ n) (let f : p * t ≡ q * s = omega (arith, e) in f) (dvd-mul_right p t)))
    (divides-other s t p k (subst (λ n. s ∣ n) (let f : s * q ≡ t * p = omega (arith, e) in f) (dvd-mul_right s q)))

pub one-elasticity : (G : List ℕ) (p q s t : ℕ) → IsElasticity G p q → IsElasticity G s t → (p ≡ s) × (q ≡ t)
one-elasticity G p q s t h k =
    let e : p * t ≡ s * q = omega (arith, quotient-most G p q s t h k, quotient-most G s t p q k h) in
    (same-terms p q s t h.lowest k.lowest e, same-terms q p t s (IsGcd-swap p q 1 h.lowest) (IsGcd-swap s t 1 k.lowest) (omega (arith, e)))

pub one-betti_elements : (G l m : List ℕ) → Lists (λ n. HasTwoClasses (IsFactorization G n)) l → Lists (λ n. HasTwoClasses (IsFactorization G n)) m → l ≡ m
one-betti_elements G = one-list (λ n. HasTwoClasses (IsFactorization G n))

pub one-relations : (G : List ℕ) (P Q : List (Relation ℕ)) → IsCanonical (◌<◌) (IsFactorization G) P → IsCanonical (◌<◌) (IsFactorization G) Q → P ≡ Q
one-relations G = one-canonical (IsFactorization G) (◌<◌) (λ n m a b. omega arith)

module _ {I : Type 0} (F : I → List ℕ → Type 0) where
  pub one-catenary : (c d : ℕ) → IsCatenary F c → IsCatenary F d → c ≡ d
  one-catenary c d h k = elim (cases_lt c d) [
    | inl less ↦ let n = k.least c less in absurd (n.1 (h.chained n.0))
    | inr more ↦ elim (cases_lt d c) [
      | inl less ↦ let n = h.least d less in absurd (n.1 (k.chained n.0))
      | inr same ↦ omega arith
    ]
  ]

  pub one-min_delta : (r s : Option ℕ) → IsMinDelta F r → IsMinDelta F s → r ≡ s
  one-min_delta None None h k = refl
  one-min_delta None (Some d) h k = absurd (h.none d k.some)
  one-min_delta (Some d) None h k = absurd (k.none d h.some)
  one-min_delta (Some d) (Some e) h k = ap Some (let same : d ≡ e = omega (arith, h.least e k.some, k.least d h.some) in same)

  pub one-max_delta : (r s : Option ℕ) → IsMaxDelta F r → IsMaxDelta F s → r ≡ s
  one-max_delta None None h k = refl
  one-max_delta None (Some d) h k = absurd (h.none d k.some)
  one-max_delta (Some d) None h k = absurd (k.none d h.some)
  one-max_delta (Some d) (Some e) h k = ap Some (let same : d ≡ e = omega (arith, h.greatest e k.some, k.greatest d h.some) in same)

pub one-semigroup_omega : (G : List ℕ) (M N : ℕ) → IsOmegaOfSemigroup G M → IsOmegaOfSemigroup G N → M ≡ N
one-semigroup_omega G M N h k =
    let r = h.reached in
    let s = k.reached in
    omega (arith, k.greatest r.0 M r.1 r.2, h.greatest s.0 N s.1 s.2)
