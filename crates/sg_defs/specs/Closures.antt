-- Arf, maximal embedding dimension, saturated, and the least semigroups of these kinds.
use Rattle.std.specs.Prelude.{◌≡◌, ℕ, ℤ, pos, ◌+ℤ◌, ◌*ℤ◌, ◌+◌, ◌-◌, ◌<◌, ◌≤◌, List, [], ◌∷◌, length, All}
use Rattle.sg_defs.specs.Membership.{IsMember, IsNumericalSemigroup, IsMultiplicity, Holds}

-- x + y - z is a member for all members x >= y >= z
abbrev pub IsArf : List ℕ → Type 0
IsArf G = (x y z : ℕ) → z ≤ y → y ≤ x → IsMember G x → IsMember G y → IsMember G z → IsMember G (x + y - z)

-- x + y - m is a member for all members x and y above 0, where m is the multiplicity
abbrev pub IsMed : List ℕ → Type 0
IsMed G = (m : ℕ) × IsMultiplicity G m ×
    ((x y : ℕ) → 0 < x → 0 < y → IsMember G x → IsMember G y → IsMember G (x + y - m))

-- z1 s1 + .. + zr sr, with integers z
abbrev pub integer_value_of : List ℕ → List ℤ → ℤ
integer_value_of [] zs = pos 0
integer_value_of (s ∷ ss) [] = pos 0
integer_value_of (s ∷ ss) (z ∷ zs) = (z *ℤ pos s) +ℤ integer_value_of ss zs

-- s with any integer combination of members up to s that is not negative is a member
abbrev pub IsSaturated : List ℕ → Type 0
IsSaturated G = (s : ℕ) (ss : List ℕ) (zs : List ℤ) (r : ℕ) → IsMember G s → All (λ t. IsMember G t × (t ≤ s)) ss →
    length zs ≡ length ss → integer_value_of ss zs ≡ pos r → IsMember G (s + r)

-- H is the least numerical semigroup with P that holds all of G
pub record IsLeast (P : List ℕ → Type 0) (G H : List ℕ) : Type 0 where
  pub semigroup : IsNumericalSemigroup H
  pub has : P H
  pub holds : Holds H G
  pub least : (K : List ℕ) → IsNumericalSemigroup K → P K → Holds K G → Holds K H

abbrev pub IsArfClosure : List ℕ → List ℕ → Type 0
IsArfClosure G H = IsLeast IsArf G H

abbrev pub IsSaturatedClosure : List ℕ → List ℕ → Type 0
IsSaturatedClosure G H = IsLeast IsSaturated G H

-- the least of maximal embedding dimension among those of the same multiplicity
abbrev pub IsMedClosure : List ℕ → List ℕ → Type 0
IsMedClosure G H = IsLeast (λ K. IsMed K × ((m : ℕ) → IsMultiplicity G m → IsMultiplicity K m)) G H
