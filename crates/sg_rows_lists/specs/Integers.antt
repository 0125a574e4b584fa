-- What lists of integers have.
use Rattle.std.specs.Prelude.{◌↔◌, ℕ, ℤ, pos, ◌+ℤ◌, ◌≤ℤ◌, List, [], ◌∷◌, All, Contains, ⊤, unsigned_abs}
use Rattle.std.specs.Int.{◌∣◌}

-- the sum of all
abbrev pub total : List ℤ → ℤ
total [] = pos 0
total (z ∷ zs) = z +ℤ total zs

-- P holds of each entry
abbrev pub EachOf : List ℤ → (ℤ → Type 0) → Type 0
EachOf [] P = ⊤
EachOf (z ∷ zs) P = P z × EachOf zs P

-- z is an entry, and none is above it
abbrev pub IsGreatest : List ℤ → ℤ → Type 0
IsGreatest zs z = Contains zs z × All (λ y. y ≤ℤ z) zs

-- z is an entry, and none is below it
abbrev pub IsLeast : List ℤ → ℤ → Type 0
IsLeast zs z = Contains zs z × All (λ y. z ≤ℤ y) zs

-- the divisors of g are the common divisors of the entries
abbrev pub IsGcdOfAll : List ℤ → ℕ → Type 0
IsGcdOfAll zs g = (d : ℕ) → (d ∣ g) ↔ EachOf zs (λ z. d ∣ unsigned_abs z)

-- the multiples of m are the common multiples of the entries
abbrev pub IsLcmOfAll : List ℤ → ℕ → Type 0
IsLcmOfAll zs m = (n : ℕ) → (m ∣ n) ↔ EachOf zs (λ z. unsigned_abs z ∣ n)
