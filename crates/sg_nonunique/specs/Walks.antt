-- Walks inside a set whose neighbours are related: the one notion behind classes, presentations and chains.
use Rattle.std.specs.Prelude.{◌≡◌, List, [], ◌∷◌}

-- from x, by way of the list, to y: each point is in the set V, and each two neighbours have the relation R
abbrev pub IsWalk : {X : Type 0} → (X → Type 0) → (X → X → Type 0) → X → List X → X → Type 0
IsWalk V R x [] y = V x × (x ≡ y)
IsWalk V R x (p ∷ ps) y = V x × R x p × IsWalk V R p ps y

-- some walk leads from x to y
abbrev pub IsJoined : {X : Type 0} → (X → Type 0) → (X → X → Type 0) → X → X → Type 0
IsJoined {X} V R x y = (ps : List X) × IsWalk V R x ps y
