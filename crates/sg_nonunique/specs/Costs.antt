-- The sets whose items a budget counts, in the work on affine semigroups.
use Rattle.std.specs.Prelude.{◌≡◌, ℕ, ℤ, ◌<◌, List, [], ◌++◌, length, remove, slice_index_or, Contains}
use Rattle.sg_defs.specs.Vectors.{IsBelow, ListsAscending}
use Rattle.sg_nonunique.specs.Affine.{vector_value_of, IsVectorFactorization, AtNaturals}
use Rattle.sg_nonunique.specs.Equations.{IsAtom, IsGrown, pair_columns}

-- z has a place for each entry of A, and a value at most v
pub record IsPartial (d : ℕ) (A : List (List ℕ)) (v z : List ℕ) : Type 0 where
  pub places : length z ≡ length A
  pub below : IsBelow (vector_value_of d A z) v

-- of a vector of integers: one with an entry below 0 has none
abbrev pub IsIntegerPartial : ℕ → List (List ℕ) → List ℤ → List ℕ → Type 0
IsIntegerPartial d A v z = AtNaturals (λ u. IsPartial d A u z) v

-- a given vector, and a vector with a place for each different other one, whose value by these is at most the given one
pub record IsConstructionItem (given : List (List ℕ)) (item : List ℕ × List ℕ) : Type 0 where
  pub different : List (List ℕ)
  pub is_different : ListsAscending (Contains given) different
  pub place : ℕ
  pub in_range : place < length different
  pub vector : item.0 ≡ slice_index_or different place []
  pub partial : IsPartial (length item.0) (remove different place) item.0 item.1

-- v is the value of z for a minimal pair (z, z')
abbrev pub IsAtomValue : ℕ → List (List ℕ) → List ℕ → Type 0
IsAtomValue d A v = (z z' : List ℕ) × IsVectorFactorization d A v z × IsAtom d (pair_columns A) (z ++ z')

-- what is counted: a pair that is grown, or a vector v with a vector of the set IsPartial for v
pub data Counted : Type 0 where
  grown : List ℕ → Counted
  partial : List ℕ → List ℕ → Counted

-- each pair that is grown, and for each value v of a minimal pair each vector whose value is at most v
abbrev pub IsCounted : ℕ → List (List ℕ) → Counted → Type 0
IsCounted d A (grown p) = IsGrown d (pair_columns A) p
IsCounted d A (partial v z) = IsAtomValue d A v × IsPartial d A v z
