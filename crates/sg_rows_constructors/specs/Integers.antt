-- Integers from which a semigroup is made.
use Rattle.std.specs.Prelude.{ℕ, ℤ, pos, ◌≤ℤ◌, ◌<ℤ◌, ◌⊎◌, List, map, All, Contains, unsigned_abs}
use Rattle.sg_defs.specs.Membership.{IsNumericalSemigroup, Generates}
use Rattle.sg_apery.specs.Classes.{IsKunz}
use Rattle.sg_apery.specs.Conditions.{IsClosedSet}
use Rattle.sg_apery.specs.Fundamental.{DividesNone}
use Rattle.sg_apery.specs.Limits.{GENERATOR_LIMIT, FUNDAMENTAL_GAP_LIMIT}

-- all entries are below the limit of generators
abbrev pub AreBelow : List ℤ → Type 0
AreBelow zs = All (λ z. z <ℤ pos GENERATOR_LIMIT) zs

-- the entries without their signs
abbrev pub naturals : List ℤ → List ℕ
naturals zs = map unsigned_abs zs

-- no entry is negative
abbrev pub AreNatural : List ℤ → Type 0
AreNatural zs = All (λ z. pos 0 ≤ℤ z) zs

-- each entry is above 0
abbrev pub ArePositive : List ℤ → Type 0
ArePositive zs = All (λ z. pos 1 ≤ℤ z) zs

-- the entries are positive, and generate a numerical semigroup
abbrev pub Generate : List ℤ → Type 0
Generate zs = ArePositive zs × IsNumericalSemigroup (naturals zs)

-- the naturals with P are a numerical semigroup
abbrev pub IsSemigroup : (ℕ → Type 0) → Type 0
IsSemigroup P = (G : List ℕ) × Generates P G

-- a natural that is no entry
abbrev pub IsNoEntry : List ℤ → ℕ → Type 0
IsNoEntry zs n = Contains zs (pos n) → ⊥

-- a natural that is an entry, or above each entry
abbrev pub IsEntryOrAbove : List ℤ → ℕ → Type 0
IsEntryOrAbove zs n = Contains zs (pos n) ⊎ All (λ z. z <ℤ pos n) zs

-- positive, and the other naturals are a numerical semigroup
abbrev pub AreGaps : List ℤ → Type 0
AreGaps zs = ArePositive zs × IsSemigroup (IsNoEntry zs)

-- naturals among which 0 is, and these and all above the greatest are closed under sums
abbrev pub AreSmallElements : List ℤ → Type 0
AreSmallElements zs = AreNatural zs × Contains zs (pos 0) × IsClosedSet (IsEntryOrAbove zs)

-- naturals that meet Kunz's conditions: entry 0 is 0, each is congruent to its place modulo their number, and the sum of two is at least the entry of its class
abbrev pub AreApery : List ℤ → Type 0
AreApery zs = AreNatural zs × IsKunz (naturals zs)

-- no entry is past the limit of fundamental gaps
abbrev pub AreWithin : List ℤ → Type 0
AreWithin zs = All (λ z. z ≤ℤ pos FUNDAMENTAL_GAP_LIMIT) zs

-- positive, and the naturals that divide none of them are a numerical semigroup
abbrev pub AreFundamental : List ℤ → Type 0
AreFundamental zs = ArePositive zs × IsSemigroup (DividesNone (naturals zs))
