-- What grows from vectors where some atoms are known.
use Rattle.std.specs.Prelude.{◌≡◌, ℕ, ℤ, ◌<◌, ◌⊎◌, ◌↔◌, List, Contains}
use Rattle.sg_defs.specs.Vectors.{IsBelow}
use Rattle.sg_nonunique.specs.Places.{unit}
use Rattle.sg_atoms.specs.Levels.{Raises}
use Rattle.sg_atoms.specs.Matrices.{rows_of}

-- none of the atoms lies below q
abbrev pub IsFree : List (List ℕ) → List ℕ → Type 0
IsFree atoms q = (a : List ℕ) → Contains atoms a → IsBelow a q → ⊥

-- q is p with one more at the place, and free
abbrev pub IsGrowthAt : List (List ℤ) → List (List ℕ) → List ℕ → ℕ → List ℕ → Type 0
IsGrowthAt columns atoms p place q = Raises (rows_of columns) columns p q place × IsFree atoms q

-- at a place before n
abbrev pub IsGrowthBefore : List (List ℤ) → List (List ℕ) → List ℕ → ℕ → List ℕ → Type 0
IsGrowthBefore columns atoms p n q = (place : ℕ) × (place < n) × IsGrowthAt columns atoms p place q

-- at some place
abbrev pub IsGrowth : List (List ℤ) → List (List ℕ) → List ℕ → List ℕ → Type 0
IsGrowth columns atoms p q = (place : ℕ) × IsGrowthAt columns atoms p place q

-- q grows from one of the vectors
abbrev pub IsGrowthOf : List (List ℤ) → List (List ℕ) → List (List ℕ) → List ℕ → Type 0
IsGrowthOf columns atoms level q = (p : List ℕ) × Contains level p × IsGrowth columns atoms p q

-- the new list has what the old one has, and the vectors with P
abbrev pub Gathers : (List ℕ → Type 0) → List (List ℕ) → List (List ℕ) → Type 0
Gathers P old new = (q : List ℕ) → Contains new q ↔ (Contains old q ⊎ P q)

-- q is one of the first n unit vectors with so many places
abbrev pub IsUnitBefore : ℕ → ℕ → List ℕ → Type 0
IsUnitBefore places n q = (place : ℕ) × (place < n) × (unit places place ≡ q)
