-- The greatest common divisor of the first differences of generators.
use Rattle.std.proofs.Common.{◌≡◌, ℕ, zero, suc, ◌+◌, ◌-◌, ◌<◌, ◌≤◌, List, length, get_or, refl, subst, inl, inr, arith}
use Rattle.std.specs.Prelude.{None, Some}
use Rattle.std.specs.Int.{◌∣◌, IsGcd}
use Rattle.std.proofs.lemmas.Bool.{cases_lt}
use Rattle.std.proofs.lemmas.Nat.Gcd.{dvd-zero, dvd_trans}
use Rattle.std.proofs.Math.Nat.{eq-zero_of_zero-dvd}
use Rattle.sg_defs.specs.Membership.{IsFactorization, IsMinimal, IsNumericalSemigroup}
use Rattle.sg_defs.proofs.MinimalLemmas.{first-least}
use Rattle.sg_nonunique.specs.Deltas.{IsMinDelta}
use Rattle.sg_laws_families.specs.Bounds.{IsDifferenceGcd}
use Rattle.sg_laws_families.proofs.DifferenceLemmas.{difference_gcd-exists, min_delta-none, min_delta-some}

-- of the differences before a place
pub record IsGcdBelow (G : List ℕ) (place g : ℕ) : Type 0 where
  pub divides : (j : ℕ) → j < place → j < length G → g ∣ (get_or G j 0 - get_or G 0 0)
  pub greatest : (d : ℕ) → ((j : ℕ) → j < place → j < length G → d ∣ (get_or G j 0 - get_or G 0 0)) → d ∣ g

-- the first one is 0
pub gcd-first : (G : List ℕ) → IsGcdBelow G 1 0
gcd-first G = record {
  divides = λ j l m.
      let at : 0 ≡ j = omega (arith, l) in
      let none : 0 ≡ get_or G 0 0 - get_or G 0 0 = omega arith in
      subst (λ i. 0 ∣ (get_or G i 0 - get_or G 0 0)) at (subst (λ n. 0 ∣ n) none (dvd-zero 0));
  greatest = λ d h. dvd-zero d;
}

-- one difference more
pub gcd-next : (G : List ℕ) (place g h : ℕ) → place < length G → IsGcdBelow G place g → IsGcd g (get_or G place 0 - get_or G 0 0) h → IsGcdBelow G (place + 1) h
gcd-next G place g h inside before is = record {
  divides = λ j l m. elim (cases_lt j place) [
    | inl less ↦ dvd_trans h is.0 (before.divides j less m)
    | inr at ↦ let e : place ≡ j = omega (arith, l, at) in subst (λ i. h ∣ (get_or G i 0 - get_or G 0 0)) e is.1
  ];
  greatest = λ d each. is.2 d (before.greatest d (λ j l m. each j (omega (arith, l)) m)) (each place (omega arith) inside);
}

-- all differences
pub gcd-all : (G : List ℕ) (place g : ℕ) → length G ≤ place → IsGcdBelow G place g → IsDifferenceGcd G g
gcd-all G place g far h = record {
  divides = λ i l. h.divides i (omega (arith, l, far)) l;
  greatest = λ d each. h.greatest d (λ j l m. each j m);
}

-- the naturals have no delta
pub naturals-none : (G : List ℕ) → IsNumericalSemigroup G → IsMinimal G → length G ≡ 1 → IsMinDelta (IsFactorization G) None
naturals-none G s m one = min_delta-none G s (first-least G m.ascending) 0 (gcd-all G 1 0 (omega (arith, one)) (gcd-first G)) refl

-- with two generators some difference is not 0
pub others-some : (G : List ℕ) → IsNumericalSemigroup G → IsMinimal G → 1 < length G → (d : ℕ) × IsMinDelta (IsFactorization G) (Some d)
others-some G s m two = by (difference_gcd-exists G (first-least G m.ascending)).0 (difference_gcd-exists G (first-least G m.ascending)).1
  where
    by : (g : ℕ) → IsDifferenceGcd G g → (d : ℕ) × IsMinDelta (IsFactorization G) (Some d)
    by zero h = absurd (omega (arith, eq-zero_of_zero-dvd (h.divides 1 two), m.ascending 0 two))
    by (suc g) h = (suc g, min_delta-some G s (first-least G m.ascending) (suc g) h (omega arith))
