-- The matrices that a search takes, and the inner products of their columns.
use Rattle.std.specs.Prelude.{ℕ, ℤ, pos, ◌≤◌, ◌+ℤ◌, ◌*ℤ◌, List, [], ◌∷◌, length, map, slice_index_or, unsigned_abs, All}
use Rattle.sg_nonunique.specs.Equations.{AreColumns, inner_product}

-- how many rows a matrix has: as many as entries of its first column
abbrev pub rows_of : List (List ℤ) → ℕ
rows_of columns = length (slice_index_or columns 0 [])

-- no entry is above b in absolute value
abbrev pub AreWithin : ℕ → List ℤ → Type 0
AreWithin b xs = All (λ x. unsigned_abs x ≤ b) xs

-- at most 32 columns of one length up to 8, with entries up to 65,535 in absolute value
pub record IsMatrix (columns : List (List ℤ)) : Type 0 where
  pub few : length columns ≤ 32
  pub shape : AreColumns (rows_of columns) columns
  pub short : rows_of columns ≤ 8
  pub small : All (AreWithin 65535) columns

-- the products of a column with each
abbrev pub products_with : List (List ℤ) → List ℤ → List ℤ
products_with columns c = map (inner_product c) columns

-- the products of each column with each
abbrev pub products_of : List (List ℤ) → List (List ℤ)
products_of columns = map (products_with columns) columns

-- p1 x1 + .. + pk xk
abbrev pub weighted : List ℤ → List ℕ → ℤ
weighted [] p = pos 0
weighted (x ∷ xs) [] = pos 0
weighted (x ∷ xs) (n ∷ p) = pos n *ℤ x +ℤ weighted xs p
