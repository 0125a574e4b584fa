-- Which numbers a list generates, and what a numerical semigroup is.
use Rattle.std.specs.Prelude.{◌≡◌, ℕ, ℤ, pos, negsuc, ◌<◌, ◌≤◌, ◌↔◌, List, length, remove, slice_index, All}
use Rattle.std.specs.Int.{◌∣◌}
use Rattle.std.specs.List.Sorted.{IsStrictlyIncreasing}
use Rattle.sg_defs.specs.Vectors.{value_of}

-- z is a factorization of n: it has one place for each entry of G, and value n
pub record IsFactorization (G : List ℕ) (n : ℕ) (z : List ℕ) : Type 0 where
  pub places : length z ≡ length G
  pub value : value_of G z ≡ n

-- n is a sum of natural multiples of the entries
abbrev pub IsMember : List ℕ → ℕ → Type 0
IsMember G n = (z : List ℕ) × IsFactorization G n z

-- a fact on naturals, asked of an integer: it holds of no integer below 0
abbrev pub AtNatural : (ℕ → Type 0) → ℤ → Type 0
AtNatural P (pos n) = P n
AtNatural P (negsuc n) = ⊥

-- no integer below 0 is a member
abbrev pub IsIntegerMember : List ℕ → ℤ → Type 0
IsIntegerMember G x = AtNatural (IsMember G) x

-- G generates a numerical semigroup
pub record IsNumericalSemigroup (G : List ℕ) : Type 0 where
  pub not_empty : 0 < length G
  pub positive : All (λ g. 1 ≤ g) G
  -- no integer above 1 divides all entries
  pub coprime : (d : ℕ) → All (λ g. d ∣ g) G → d ≤ 1

-- no entry is a member of the list of the others
pub record IsMinimal (M : List ℕ) : Type 0 where
  pub ascending : IsStrictlyIncreasing M
  pub needed : (k : ℕ) → k < length M → IsMember (remove M k) (slice_index M k) → ⊥

-- M is the minimal list of the numerical semigroup of the naturals with P
pub record Generates (P : ℕ → Type 0) (M : List ℕ) : Type 0 where
  pub semigroup : IsNumericalSemigroup M
  pub minimal : IsMinimal M
  pub same : (n : ℕ) → P n ↔ IsMember M n

-- each member of G is one of H
abbrev pub Holds : List ℕ → List ℕ → Type 0
Holds H G = (n : ℕ) → IsMember G n → IsMember H n

-- m is the least member above 0
pub record IsMultiplicity (G : List ℕ) (m : ℕ) : Type 0 where
  pub positive : 0 < m
  pub member : IsMember G m
  pub least : (n : ℕ) → 0 < n → IsMember G n → m ≤ n
