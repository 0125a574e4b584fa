-- Relations as lists of vectors.
use Rattle.std.specs.Prelude.{ℕ, List, [], ◌∷◌}
use Rattle.sg_nonunique.specs.Presentations.{Relation}

-- the two sides of a relation
abbrev pub sides : Relation ℕ → List (List ℕ)
sides r = r.left ∷ r.right ∷ []
