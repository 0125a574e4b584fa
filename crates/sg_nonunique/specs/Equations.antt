-- Systems of linear equations over the naturals: a matrix of r rows is the list of its columns, each of r integers.
use Rattle.std.specs.Prelude.{◌≡◌, ◌≢◌, ℕ, ◌<◌, ℤ, pos, neg_ℤ, ◌+ℤ◌, ◌*ℤ◌, ◌<ℤ◌, List, [], ◌∷◌, ◌++◌, length, replicate, map, slice_index_or, All, ⊤}
use Rattle.sg_defs.specs.Vectors.{plus, IsBelow}
use Rattle.sg_nonunique.specs.Places.{unit}
use Rattle.sg_nonunique.specs.Walks.{IsWalk}

-- each column has r entries
abbrev pub AreColumns : ℕ → List (List ℤ) → Type 0
AreColumns r columns = All (λ c. length c ≡ r) columns

-- the sum, place by place
abbrev pub plus_integers : List ℤ → List ℤ → List ℤ
plus_integers [] ys = []
plus_integers (x ∷ xs) [] = []
plus_integers (x ∷ xs) (y ∷ ys) = (x +ℤ y) ∷ plus_integers xs ys

-- p1 c1 + .. + pk ck for the columns c
abbrev pub image_of : ℕ → List (List ℤ) → List ℕ → List ℤ
image_of r [] ps = replicate r (pos 0)
image_of r (c ∷ cs) [] = replicate r (pos 0)
image_of r (c ∷ cs) (p ∷ ps) = plus_integers (map (λ x. pos p *ℤ x) c) (image_of r cs ps)

-- a vector of naturals that the matrix sends to zero
pub record IsSolution (r : ℕ) (columns : List (List ℤ)) (p : List ℕ) : Type 0 where
  pub places : length p ≡ length columns
  pub zero_image : image_of r columns p ≡ replicate r (pos 0)

-- an atom of the solutions: nonzero, and no other nonzero solution lies below it
pub record IsAtom (r : ℕ) (columns : List (List ℤ)) (p : List ℕ) : Type 0 where
  pub solution : IsSolution r columns p
  pub nonzero : p ≢ replicate (length columns) 0
  pub minimal : (q : List ℕ) → IsSolution r columns q → q ≢ replicate (length columns) 0 → IsBelow q p → q ≡ p

-- the pairs of vectors with equal value are the solutions for the generators and their negatives
abbrev pub pair_columns : List (List ℕ) → List (List ℤ)
pair_columns A = map (λ a. map (λ x. pos x) a) A ++ map (λ a. map (λ x. neg_ℤ (pos x)) a) A

-- x1 y1 + .. + xk yk
abbrev pub inner_product : List ℤ → List ℤ → ℤ
inner_product [] ys = pos 0
inner_product (x ∷ xs) [] = pos 0
inner_product (x ∷ xs) (y ∷ ys) = (x *ℤ y) +ℤ inner_product xs ys

-- p is no solution, q is p and a unit vector whose image has a negative product with that of p,
-- and no nonzero solution other than q lies below q
pub record GrowsTo (r : ℕ) (columns : List (List ℤ)) (p q : List ℕ) : Type 0 where
  pub unsolved : IsSolution r columns p → ⊥
  pub place : ℕ
  pub in_range : place < length columns
  pub next : q ≡ plus p (unit (length columns) place)
  pub back : inner_product (image_of r columns p) (slice_index_or columns place []) <ℤ pos 0
  pub free : (s : List ℕ) → IsSolution r columns s → s ≢ replicate (length columns) 0 → s ≢ q → IsBelow s q → ⊥

-- a list leads to p from a unit vector, each vector growing to the next
abbrev pub IsGrown : ℕ → List (List ℤ) → List ℕ → Type 0
IsGrown r columns p = (j : ℕ) × (j < length columns) ×
    ((ps : List (List ℕ)) × IsWalk (λ _. ⊤) (GrowsTo r columns) (unit (length columns) j) ps p)
