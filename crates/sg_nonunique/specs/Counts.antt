-- How many items a set has.
use Rattle.std.specs.Prelude.{◌≡◌, ◌≢◌, ℕ, ◌+◌, List, length, All, AllPairs}

-- more than b different items have P
abbrev pub Exceeds : {X : Type 0} → (X → Type 0) → ℕ → Type 0
Exceeds {X} P b = (items : List X) × (length items ≡ b + 1) × AllPairs (λ x y. x ≢ y) items × All P items
