-- The sets of the constructors.
use Rattle.std.specs.Prelude.{ℕ, ◌<◌, ◌≤◌, ◌*◌, ◌%◌, List}
use Rattle.sg_defs.specs.Membership.{IsNumericalSemigroup, Generates}
use Rattle.sg_classes.specs.Classes.{IsAboveEntry, IsKunz}
use Rattle.sg_apery.specs.Conditions.{IsInBoth, IsInQuotient, AreSmallAccepted}
use Rattle.sg_small.specs.Sets.{IsInSmall, IsOutside}
use Rattle.sg_laws_invariants.specs.Decided.{Decided}

-- the naturals with P are a numerical semigroup
abbrev pub IsGenerated : (ℕ → Type 0) → Type 0
IsGenerated P = (M : List ℕ) × Generates P M

-- the constructors' sets are numerical semigroups where their conditions hold, and these are decided
pub record AreSetsGenerated : Type 0 where
  pub intersection : (G H : List ℕ) → IsNumericalSemigroup G → IsNumericalSemigroup H → IsGenerated (IsInBoth G H)
  pub quotient : (G : List ℕ) (d : ℕ) → IsNumericalSemigroup G → 0 < d → IsGenerated (IsInQuotient G d)
  pub apery_accepted : (t : List ℕ) → Decided (IsKunz t)
  pub apery : (t : List ℕ) → IsKunz t → IsGenerated (IsAboveEntry t)
  pub small_accepted : (l : List ℕ) → Decided (AreSmallAccepted l)
  pub small_elements : (l : List ℕ) → AreSmallAccepted l → IsGenerated (IsInSmall l)
  pub gaps : (l : List ℕ) → Decided (IsGenerated (IsOutside l))
  pub modular : (a b c : ℕ) → 0 < b → 0 < c → IsGenerated (λ x. (a * x) % b ≤ c * x)
