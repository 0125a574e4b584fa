-- A set of numbers written out as a list, and how many numbers it has.
use Rattle.std.specs.Prelude.{◌≡◌, ℕ, ℤ, ◌<ℤ◌, ◌↔◌, List, length, Contains, AllPairs}
use Rattle.std.specs.List.Sorted.{IsStrictlyIncreasing}

-- the list is strictly ascending and holds exactly the naturals with P
pub record Lists (P : ℕ → Type 0) (l : List ℕ) : Type 0 where
  pub ascending : IsStrictlyIncreasing l
  pub exactly : (n : ℕ) → Contains l n ↔ P n

-- the same of integers
pub record ListsIntegers (P : ℤ → Type 0) (l : List ℤ) : Type 0 where
  pub ascending : AllPairs (λ x y. x <ℤ y) l
  pub exactly : (x : ℤ) → Contains l x ↔ P x

-- so many naturals have P
abbrev pub IsCountOf : (ℕ → Type 0) → ℕ → Type 0
IsCountOf P n = (l : List ℕ) × Lists P l × (length l ≡ n)
