-- Factorizations, their lengths and deltas, elasticities, catenary degrees and omega primalities are far below the limit of
-- 64 bits.
use Rattle.std.proofs.Common.{◌+◌, ◌-◌, ◌/◌, ◌<◌, ◌≤◌, ◌^◌, ℕ, List, [], ◌∷◌, length, get_or, sum, inl, inr, refl, arith}
use Rattle.std.specs.Prelude.{ℤ, pos, negsuc, All, FitsSigned, ⊤}
use Rattle.std.specs.Int.{w64}
use Rattle.std.proofs.Math.Nat.{div-le_self}
use Rattle.std.proofs.lemmas.Bool.{cases_lt}
use Rattle.sg_defs.specs.Listings.{Lists}
use Rattle.sg_defs.specs.Membership.{IsFactorization, IsMinimal, IsNumericalSemigroup}
use Rattle.sg_nonunique.specs.Catenary.{IsCatenaryOf}
use Rattle.sg_nonunique.specs.Deltas.{IsDelta}
use Rattle.sg_nonunique.specs.Elasticity.{IsElasticity}
use Rattle.sg_nonunique.specs.Factorizations.{AreFactorizations, IsIntegerFactorization, IsLengthIn}
use Rattle.sg_nonunique.specs.Omega.{IsOmega, IsOmegaOfSemigroup}
use Rattle.sg_apery.specs.Fit.{IsFit, IsSpan}
use Rattle.sg_apery.proofs.GeneratorLemmas.{contains-place, place-contains}
use Rattle.sg_laws_finite.proofs.ElementLemmas.{all-from_contained}
use Rattle.sg_laws_finite.proofs.PartialLemmas.{place-below_sum}
use Rattle.sg_laws_families.proofs.DistanceLemmas.{distance-le}
use Rattle.sg_laws_families.proofs.GcdLemmas.{gcd-of_closed}
use Rattle.sg_laws_factorizations.proofs.OneAnswer.{one-elasticity}
use Rattle.sg_factor.proofs.BoundLemmas.{value-at_least}
use Rattle.sg_factor.proofs.ElasticityLemmas.{is_elasticity}
use Rattle.sg_omega.proofs.MinimalLemmas.{serves-iff}
use Rattle.sg_omega.proofs.PrimalityLemmas.{rest-within}
use Rattle.sg_omega.specs.declared.limits.TheConstants.{OMEGA_LIMIT}
use Rattle.sg_rows.specs.Made.{AreWithinBits}

-- a factorization of n is no longer than n
length-within : (G : List ℕ) (n : ℕ) (z : List ℕ) → IsNumericalSemigroup G → IsFactorization G n z → sum z ≤ n
length-within G n z s f = let least = value-at_least G z 1 f.places (λ k l. s.positive k 0 l) in omega (arith, least, f.value)

module _ (G : List ℕ) (x : ℤ) (s : IsNumericalSemigroup G) (fits : FitsSigned w64 x) where
  length-small : (z : List ℕ) → IsIntegerFactorization G x z → sum z < 2 ^ 63
  length-small z f = by x fits f
    where
      by : (y : ℤ) → FitsSigned w64 y → IsIntegerFactorization G y z → sum z < 2 ^ 63
      by (pos n) small f = let within = length-within G n z s f in let below = small.sfits in omega (arith, within, below)
      by (negsuc n) small f = absurd f

  -- the entries of each factorization
  pub vectors-small : (l : List (List ℕ)) → AreFactorizations G x l → All AreWithinBits l
  vectors-small l h = all-from_contained AreWithinBits l (λ z there k within.
      let small = length-small z ((h.exactly z).0 there) in
      let place = place-below_sum z k in
      omega (arith, small, place))

  -- the lengths
  pub lengths-small : (l : List ℕ) → Lists (IsLengthIn (IsIntegerFactorization G x)) l → AreWithinBits l
  lengths-small l h k within =
      let length = (h.exactly _).0 (place-contains l k within) in
      let small = length-small length.0 length.1 in
      omega (arith, small, length.2)

  -- the differences of neighbouring lengths
  pub deltas-small : (l : List ℕ) → Lists (IsDelta (IsIntegerFactorization G x)) l → AreWithinBits l
  deltas-small l h k within =
      let delta = (h.exactly _).0 (place-contains l k within) in
      let upper = delta.is_upper in
      let small = length-small upper.0 upper.1 in
      omega (arith, small, upper.2)

  -- no two factorizations are further apart than they are long
  pub catenary-small : (c : ℕ) → IsCatenaryOf (IsIntegerFactorization G x) c → c < 2 ^ 63
  catenary-small c h = elim (cases_lt (2 ^ 63 - 1) c) [
    | inr more ↦ omega (arith, more)
    | inl less ↦ absurd (h.least (2 ^ 63 - 1) less (λ a b p q.
        let first = length-small a p in
        let second = length-small b q in
        (b ∷ [], (p, distance-le a b (2 ^ 63 - 1) (omega (arith, first)) (omega (arith, second)), (q, refl)))))
  ]

-- the numerator of the elasticity is no more than the greatest generator
pub elasticity-small : (G : List ℕ) → IsNumericalSemigroup G → IsMinimal G → IsFit G → (p q : ℕ) → IsElasticity G p q → p < 2 ^ 63
elasticity-small G s m fit p q h =
    let f = get_or G 0 0 in
    let l = get_or G (length G - 1) 0 in
    let g = gcd-of_closed (λ _. ⊤) (λ _ _ _ _ _. tt) f l tt tt in
    let same = one-elasticity G p q (l / g.0) (f / g.0) h (is_elasticity G s m.ascending g.0 g.2) in
    let below = div-le_self l g.0 in
    let small = fit.small (length G - 1) (omega (arith, s.not_empty)) in
    omega (arith, same.0, below, small)

-- a minimal vector above n has its value within n and the span
omega-within : (G : List ℕ) → IsNumericalSemigroup G → IsMinimal G → (s : ℕ) → IsSpan G s → (n N : ℕ) → IsOmega G n N → N ≤ n + s
omega-within G semigroup minimal s span n N h = elim (cases_lt (n + s) N) [
  | inr more ↦ more
  | inl less ↦ absurd (h.least (n + s) less ((serves-iff G n (n + s)).1 (λ z m.
      let rest = rest-within G semigroup minimal s span n z m in
      let least = value-at_least G z 1 m.places (λ k l. semigroup.positive k 0 l) in
      let value = m.value in
      omega (arith, rest, least, value))))
]

module _ (G : List ℕ) (semigroup : IsNumericalSemigroup G) (minimal : IsMinimal G) where
  pub omega-small : (n N : ℕ) → (s : ℕ) × IsSpan G s × (n + s ≤ OMEGA_LIMIT) → IsOmega G n N → N < 2 ^ 63
  omega-small n N within h = let least = omega-within G semigroup minimal within.0 within.1 n N h in omega (arith, least, within.2)

  pub semigroup_omega-small : IsFit G → (n N : ℕ) → (s : ℕ) × IsSpan G s × (n + s ≤ OMEGA_LIMIT) → IsOmegaOfSemigroup G N → N < 2 ^ 63
  semigroup_omega-small fit n N within h =
      let g = h.reached in
      let least = omega-within G semigroup minimal within.0 within.1 g.0 N g.2 in
      let place = contains-place G g.0 g.1 in
      let small = fit.small place.0 place.1 in
      omega (arith, least, within.2, small, place.2)
