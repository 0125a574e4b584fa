-- The semigroup that the multiplicity and its differences with the other generators generate.
use Rattle.std.specs.Prelude.{◌≡◌, ℕ, ◌+◌, ◌-◌, ◌<◌, ◌≤◌, ◌⊎◌, List, length, slice_index}
use Rattle.sg_defs.specs.Membership.{IsMember, Generates}

-- d is the generator m itself, or the difference of a greater generator with m
abbrev pub IsDifference : ℕ → ℕ → ℕ → Type 0
IsDifference m g d = ((g ≡ m) × (d ≡ m)) ⊎ ((m < g) × (d + m ≡ g))

-- the multiplicity, and its differences with the other generators, in order
pub record AreDifferences (G D : List ℕ) : Type 0 where
  pub long : length D ≡ length G
  pub entries : (k : ℕ) → k < length G → IsDifference (slice_index G 0) (slice_index G k) (slice_index D k)

-- M is the minimal list of what these generate
abbrev pub GeneratesDifferences : List ℕ → List ℕ → Type 0
GeneratesDifferences G M = (D : List ℕ) × AreDifferences G D × Generates (IsMember D) M

-- x is 0, or the sum of m and a member
abbrev pub IsShifted : List ℕ → ℕ → ℕ → Type 0
IsShifted L m x = (x ≡ 0) ⊎ ((m ≤ x) × IsMember L (x - m))
