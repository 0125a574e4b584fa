-- The grown vectors and the atoms by their length, which is the sum of the places: a search goes from level to level.
use Rattle.std.specs.Prelude.{◌≡◌, ℕ, ℤ, pos, ◌<◌, ◌<ℤ◌, List, [], length, sum, slice_index_or}
use Rattle.sg_defs.specs.Vectors.{plus, IsBelow}
use Rattle.sg_nonunique.specs.Places.{unit}
use Rattle.sg_nonunique.specs.Equations.{image_of, inner_product, IsSolution, IsAtom, IsGrown}

-- p is grown, and its length is l
abbrev pub IsOnLevel : ℕ → List (List ℤ) → ℕ → List ℕ → Type 0
IsOnLevel r columns l p = IsGrown r columns p × (sum p ≡ l)

-- p is grown, and its length is below l
abbrev pub IsBeforeLevel : ℕ → List (List ℤ) → ℕ → List ℕ → Type 0
IsBeforeLevel r columns l p = IsGrown r columns p × (sum p < l)

-- p is an atom, and its length is below l
abbrev pub IsAtomBefore : ℕ → List (List ℤ) → ℕ → List ℕ → Type 0
IsAtomBefore r columns l p = IsAtom r columns p × (sum p < l)

-- p is no solution, and q is p and a unit vector whose image has a negative product with that of p
pub record Raises (r : ℕ) (columns : List (List ℤ)) (p q : List ℕ) (place : ℕ) : Type 0 where
  pub unsolved : IsSolution r columns p → ⊥
  pub in_range : place < length columns
  pub next : q ≡ plus p (unit (length columns) place)
  pub back : inner_product (image_of r columns p) (slice_index_or columns place []) <ℤ pos 0

-- no atom shorter than l lies below q
abbrev pub IsClear : ℕ → List (List ℤ) → ℕ → List ℕ → Type 0
IsClear r columns l q = (a : List ℕ) → IsAtomBefore r columns l a → IsBelow a q → ⊥
