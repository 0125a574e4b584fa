-- Sets of naturals by some of their numbers.
use Rattle.std.specs.Prelude.{List, ℕ, ◌+◌, ◌<◌, ◌⊎◌, slice_index, Contains, EachIndex}

-- an entry, or above every entry
abbrev pub IsInSmall : List ℕ → ℕ → Type 0
IsInSmall list n = Contains list n ⊎ EachIndex list (λ k. slice_index list k < n)

-- no entry
abbrev pub IsOutside : List ℕ → ℕ → Type 0
IsOutside list n = Contains list n → ⊥

-- the sum of two numbers with P does not have P
abbrev pub IsNotClosed : (ℕ → Type 0) → Type 0
IsNotClosed P = (x y : ℕ) × P x × P y × (P (x + y) → ⊥)

-- the sum of two numbers with P has P
abbrev pub IsClosedSet : (ℕ → Type 0) → Type 0
IsClosedSet P = (x y : ℕ) → P x → P y → P (x + y)
