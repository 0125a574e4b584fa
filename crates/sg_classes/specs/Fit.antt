-- Which semigroups have a table, and which are small enough for the work that grows with them.
use Rattle.std.specs.Prelude.{◌≡◌, ℕ, pos, ◌+ℤ◌, ◌-◌, ◌*◌, ◌<◌, ◌≤◌, ◌⊎◌, ℤ, List, length, slice_index, EachIndex}
use Rattle.sg_defs.specs.Invariants.{IsFrobenius}
use Rattle.sg_defs.specs.Membership.{Generates}
use Rattle.sg_classes.specs.Entries.{HasLarge}
use Rattle.sg_classes.specs.declared.limits.TheConstants.{GENERATOR_LIMIT, MULTIPLICITY_LIMIT, NARROW_GENERATORS, NARROW_PRODUCT}

-- the multiplicity and each minimal generator are within the limits
pub record IsFit (M : List ℕ) : Type 0 where
  pub multiplicity : slice_index M 0 ≤ MULTIPLICITY_LIMIT
  pub small : EachIndex M (λ k. slice_index M k < GENERATOR_LIMIT)

-- the multiplicity or a minimal generator is past its limit
abbrev pub IsPastLimits : List ℕ → Type 0
IsPastLimits M = (MULTIPLICITY_LIMIT < slice_index M 0) ⊎ HasLarge M

-- the naturals with P are a numerical semigroup that is past the limits
abbrev pub IsTooLarge : (ℕ → Type 0) → Type 0
IsTooLarge P = (M : List ℕ) × Generates P M × IsPastLimits M

-- the Frobenius number, the multiplicity and the greatest minimal generator together
abbrev pub IsSpan : List ℕ → ℕ → Type 0
IsSpan M s = (f : ℤ) × IsFrobenius M f × (pos s ≡ ((f +ℤ pos (slice_index M 0)) +ℤ pos (slice_index M (length M - 1))))

-- so few minimal generators, and so small a multiplicity, that factorizations are listed
pub record IsNarrow (M : List ℕ) : Type 0 where
  pub generators : length M ≤ NARROW_GENERATORS
  pub product : slice_index M 0 * length M ≤ NARROW_PRODUCT
