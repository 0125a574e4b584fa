-- Whether a list generates a numerical semigroup is decided, and whether it is minimal, and whether it is within the limits.
use Rattle.std.proofs.Common.{ℕ, suc, ◌+◌, ◌<◌, ◌≤◌, List, length, get_or, subst, inl, inr, arith}
use Rattle.std.specs.Prelude.{◌⊎◌, All, remove}
use Rattle.std.specs.Int.{◌∣◌}
use Rattle.std.specs.List.Sorted.{IsStrictlyIncreasing}
use Rattle.std.proofs.lemmas.Nat.Gcd.{le_of_dvd}
use Rattle.sg_defs.specs.Membership.{IsMember, Generates, IsNumericalSemigroup, IsMinimal}
use Rattle.sg_classes.specs.Fit.{IsFit}
use Rattle.sg_classes.specs.declared.limits.TheConstants.{GENERATOR_LIMIT, MULTIPLICITY_LIMIT}
use Rattle.sg_classes.proofs.OneListLemmas.{one-minimal_list}
use Rattle.sg_defs.proofs.DecidedLemmas.{member-decided}
use Rattle.sg_laws_invariants.specs.Decided.{Decided}
use Rattle.sg_laws_invariants.proofs.Decisions.{decided-not, decided-implies, decided-same, decided-le, decided-lt, decided-divides, decided-all, each-below}

-- of a list of positive numbers only divisors up to its first entry are to be looked at
coprime-decided : (G : List ℕ) → 0 < length G → All (λ g. 1 ≤ g) G → Decided ((d : ℕ) → All (λ g. d ∣ g) G → d ≤ 1)
coprime-decided G long positive = decided-same
    ((d : ℕ) → d < suc (get_or G 0 0) → All (λ g. d ∣ g) G → d ≤ 1)
    ((d : ℕ) → All (λ g. d ∣ g) G → d ≤ 1)
    (λ h d all. h d (let low : d ≤ get_or G 0 0 = le_of_dvd (positive 0 0 long) (all 0 0 long) in omega arith) all)
    (λ h d l all. h d all)
    (each-below (λ d. All (λ g. d ∣ g) G → d ≤ 1)
    (λ d. decided-implies (All (λ g. d ∣ g) G) (d ≤ 1) (decided-all (λ g. d ∣ g) (λ g. decided-divides d g) G) (decided-le d 1))
    (suc (get_or G 0 0)))

-- whether a list generates a numerical semigroup is decided
pub semigroup-decided : (G : List ℕ) → Decided (IsNumericalSemigroup G)
semigroup-decided G = elim (decided-lt 0 (length G)) [
  | inr not ↦ inr (λ s. not s.not_empty)
  | inl long ↦ elim (decided-all (λ g. 1 ≤ g) (λ g. decided-le 1 g) G) [
    | inr not ↦ inr (λ s. not s.positive)
    | inl positive ↦ elim (coprime-decided G long positive) [
      | inr not ↦ inr (λ s. not s.coprime)
      | inl coprime ↦ inl (record { not_empty = long; positive = positive; coprime = coprime })
    ]
  ]
]

pub increasing-decided : (M : List ℕ) → Decided (IsStrictlyIncreasing M)
increasing-decided M = decided-same
    ((k : ℕ) → k < length M → k + 1 < length M → get_or M k 0 < get_or M (k + 1) 0)
    (IsStrictlyIncreasing M)
    (λ h k l. h k (omega arith) l)
    (λ h k l m. h k m)
    (each-below (λ k. k + 1 < length M → get_or M k 0 < get_or M (k + 1) 0)
    (λ k. decided-implies (k + 1 < length M) (get_or M k 0 < get_or M (k + 1) 0) (decided-lt (k + 1) (length M)) (decided-lt (get_or M k 0) (get_or M (k + 1) 0)))
    (length M))

pub minimal-decided : (M : List ℕ) → Decided (IsMinimal M)
minimal-decided M = elim (increasing-decided M) [
  | inr not ↦ inr (λ m. not m.ascending)
  | inl up ↦ elim (each-below (λ k. ¬ IsMember (remove M k) (get_or M k 0))
      (λ k. decided-not (IsMember (remove M k) (get_or M k 0)) (member-decided (remove M k) (get_or M k 0))) (length M)) [
        | inr not ↦ inr (λ m. not m.needed)
        | inl needed ↦ inl (record { ascending = up; needed = needed })
      ]
]

-- whether it is within the limits
pub fit-decided : (M : List ℕ) → Decided (IsFit M)
fit-decided M = elim (decided-le (get_or M 0 0) MULTIPLICITY_LIMIT) [
  | inr not ↦ inr (λ f. not f.multiplicity)
  | inl first ↦ elim (each-below (λ k. get_or M k 0 < GENERATOR_LIMIT) (λ k. decided-lt (get_or M k 0) GENERATOR_LIMIT) (length M)) [
    | inr not ↦ inr (λ f. not f.small)
    | inl small ↦ inl (record { multiplicity = first; small = small })
  ]
]

-- the minimal list of a set is within the limits, or no minimal list is
pub fit_list-or_none : (P : ℕ → Type 0) → (M : List ℕ) × Generates P M → ((M : List ℕ) × Generates P M × IsFit M) ⊎ ((G : List ℕ) → Generates P G → ¬ IsFit G)
fit_list-or_none P h = elim (fit-decided h.0) [
  | inl fit ↦ inl (h.0, h.1, fit)
  | inr not ↦ inr (λ G g fit. not (subst IsFit (one-minimal_list P G h.0 g h.1) fit))
]

-- whether the minimal list of a set is past them
pub unfit-decided : (P : ℕ → Type 0) → (M : List ℕ) × Generates P M → Decided ((G : List ℕ) → Generates P G → ¬ IsFit G)
unfit-decided P h = elim (fit_list-or_none P h) [ inl m ↦ inr (λ none. none m.0 m.1 m.2) | inr none ↦ inl none ]
