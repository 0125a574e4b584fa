-- The values of relations.
use Rattle.std.specs.Prelude.{◌≡◌, ℕ, List, Contains}
use Rattle.sg_nonunique.specs.Presentations.{Relation}

-- n is the value of one of the relations
abbrev pub IsValueOf : List (Relation ℕ) → ℕ → Type 0
IsValueOf P n = (r : Relation ℕ) × Contains P r × (r.value ≡ n)
