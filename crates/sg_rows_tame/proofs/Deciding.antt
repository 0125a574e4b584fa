-- Whether a semigroup is too large for the tame degree, and whether some number that is looked at has too many
-- factorizations, is decided.
use Rattle.std.proofs.Common.{◌≡◌, ℕ, ◌+◌, ◌-◌, ◌*◌, ◌<◌, ◌≤◌, List, length, get_or, inl, inr, sym, subst, arith}
use Rattle.std.proofs.lemmas.Bool.{cases_lt}
use Rattle.sg_defs.specs.Membership.{IsFactorization, IsMember, IsMinimal, IsNumericalSemigroup}
use Rattle.sg_defs.proofs.DecidedLemmas.{member-decided}
use Rattle.sg_classes.specs.Fit.{IsNarrow}
use Rattle.sg_classes.specs.declared.limits.TheConstants.{NARROW_GENERATORS, NARROW_PRODUCT}
use Rattle.sg_nonunique.specs.Counts.{Exceeds}
use Rattle.sg_laws_finite.specs.Listing.{all_factorizations}
use Rattle.sg_laws_finite.proofs.CountLemmas.{exceeds-decided, listing-from_descending}
use Rattle.sg_laws_finite.proofs.FactorizationLemmas.{factorizations-listed}
use Rattle.sg_laws_invariants.specs.Decided.{Decided}
use Rattle.sg_laws_invariants.proofs.Decisions.{decided-and, decided-le, decided-same, some-below}
use Rattle.sg_laws_invariants.proofs.SpansExist.{span-exists, span-one}
use Rattle.sg_omega.specs.Lengths.{IsInAperySet}
use Rattle.sg_tame.specs.Answers.{HasTooMany, IsWithinLimit}
use Rattle.sg_tame.specs.Needed.{IsInSomeAperySet, IsNeeded, IsNeededAt}
use Rattle.sg_tame.specs.declared.limits.TheConstants.{COMPARED_LIMIT, TAME_LIMIT}
use Rattle.sg_tame.proofs.DegreeLemmas.{needed-below}
use Rattle.sg_rows_tame.specs.Rows.{IsTameable}

-- ---- whether the semigroup is too large

narrow-decided : (G : List ℕ) → Decided (IsNarrow G)
narrow-decided G =
    let few = length G ≤ NARROW_GENERATORS in
    let small = get_or G 0 0 * length G ≤ NARROW_PRODUCT in
    decided-same (few × small) (IsNarrow G) (λ p. record { generators = p.0; product = p.1 }) (λ n. (n.generators, n.product))
    (decided-and few small (decided-le (length G) NARROW_GENERATORS) (decided-le (get_or G 0 0 * length G) NARROW_PRODUCT))

within-decided : (G : List ℕ) → IsNumericalSemigroup G → Decided (IsWithinLimit G)
within-decided G s =
    let r = span-exists G s in
    let greatest = get_or G (length G - 1) 0 in
    decided-same (greatest + r.0 ≤ TAME_LIMIT) (IsWithinLimit G) (λ l. (r.0, r.1, l))
    (λ h. let e = span-one G h.0 r.0 h.1 r.1 in let l = h.2 in omega (arith, e, l))
    (decided-le (greatest + r.0) TAME_LIMIT)

pub tameable-decided : (G : List ℕ) → IsNumericalSemigroup G → Decided (IsTameable G)
tameable-decided G s = decided-and (IsNarrow G) (IsWithinLimit G) (narrow-decided G) (within-decided G s)

-- ---- whether there are too many factorizations

module _ (G : List ℕ) where
  -- what is left of a number once another is taken away
  lowered-decided : (v g : ℕ) → Decided ((y : ℕ) × (y + g ≡ v) × IsMember G y)
  lowered-decided v g = elim (cases_lt v g) [
    | inl less ↦ inr (λ h. omega (arith, less, h.1))
    | inr more ↦ decided-same (IsMember G (v - g)) ((y : ℕ) × (y + g ≡ v) × IsMember G y)
        (λ m. (v - g, omega (arith, more), m))
        (λ h. let e : h.0 ≡ v - g = omega (arith, more, h.1) in subst (IsMember G) e h.2)
        (member-decided G (v - g))
  ]

  apery-decided : (w g : ℕ) → Decided (IsInAperySet G w g)
  apery-decided w g = elim (lowered-decided w g) [
    | inl low ↦ inr (λ h. h low.0 low.1 low.2)
    | inr not ↦ inl (λ y e m. not (y, e, m))
  ]

  some_apery-decided : (w : ℕ) → Decided (IsInSomeAperySet G w)
  some_apery-decided w = some-below (λ j. IsInAperySet G w (get_or G j 0)) (λ j. apery-decided w (get_or G j 0)) (length G)

  needed_at-decided : (v g : ℕ) → Decided (IsNeededAt G v g)
  needed_at-decided v g = elim (cases_lt v g) [
    | inl less ↦ inr (λ h. omega (arith, less, h.1))
    | inr more ↦ decided-same (IsMember G (v - g) × IsInSomeAperySet G (v - g)) (IsNeededAt G v g)
        (λ m. (v - g, omega (arith, more), m.0, m.1))
        (λ h. let e : h.0 ≡ v - g = omega (arith, more, h.1) in subst (λ w. IsMember G w × IsInSomeAperySet G w) e (h.2, h.3))
        (decided-and (IsMember G (v - g)) (IsInSomeAperySet G (v - g)) (member-decided G (v - g)) (some_apery-decided (v - g)))
  ]

  needed-decided : (v : ℕ) → Decided (IsNeeded G v)
  needed-decided v = some-below (λ i. IsNeededAt G v (get_or G i 0)) (λ i. needed_at-decided v (get_or G i 0)) (length G)

  module _ (s : IsNumericalSemigroup G) where
    counts-decided : (v : ℕ) → Decided (Exceeds (IsFactorization G v) COMPARED_LIMIT)
    counts-decided v =
        exceeds-decided (IsFactorization G v) (all_factorizations G v) COMPARED_LIMIT
        (listing-from_descending (IsFactorization G v) (all_factorizations G v) (factorizations-listed G v s.positive))

    -- no number past the greatest generator and the span has to be looked at
    pub many-decided : IsMinimal G → Decided (HasTooMany G)
    many-decided m =
        let r = span-exists G s in
        let end = get_or G (length G - 1) 0 + r.0 in
        let P = λ (v : ℕ). IsNeeded G v × Exceeds (IsFactorization G v) COMPARED_LIMIT in
        decided-same ((v : ℕ) × (v < end) × P v) (HasTooMany G) (λ h. (h.0, h.2.0, h.2.1)) (λ h. (h.0, needed-below G s m r.0 r.1 h.0 h.1, (h.1, h.2)))
        (some-below P (λ v. decided-and (IsNeeded G v) (Exceeds (IsFactorization G v) COMPARED_LIMIT) (needed-decided v) (counts-decided v)) end)
