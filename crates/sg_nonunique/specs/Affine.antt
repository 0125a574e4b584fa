-- Affine semigroups: the same with vectors of dimension d for numbers.
use Rattle.std.specs.Prelude.{◌≡◌, ◌≢◌, ℕ, ◌<◌, ℤ, pos, negsuc, List, [], ◌∷◌, length, replicate, remove, slice_index_or, All, AllPairs, Option, None, Some, IsSomeAnd, ◌↔◌}
use Rattle.std.specs.Option.{option_map}
use Rattle.sg_defs.specs.Vectors.{plus, scale, IsLexBelow}

-- z1 a1 + .. + zk ak
abbrev pub vector_value_of : ℕ → List (List ℕ) → List ℕ → List ℕ
vector_value_of d [] zs = replicate d 0
vector_value_of d (a ∷ as') [] = replicate d 0
vector_value_of d (a ∷ as') (z ∷ zs) = plus (scale z a) (vector_value_of d as' zs)

-- z is a factorization of the vector v: it has one place for each entry of A, and value v
pub record IsVectorFactorization (d : ℕ) (A : List (List ℕ)) (v z : List ℕ) : Type 0 where
  pub places : length z ≡ length A
  pub value : vector_value_of d A z ≡ v

-- v is a sum of natural multiples of the entries
abbrev pub IsVectorMember : ℕ → List (List ℕ) → List ℕ → Type 0
IsVectorMember d A v = (z : List ℕ) × IsVectorFactorization d A v z

-- A generates an affine semigroup of dimension d
pub record IsAffineSemigroup (d : ℕ) (A : List (List ℕ)) : Type 0 where
  pub not_empty : 0 < length A
  pub dimension : All (λ a. length a ≡ d) A
  pub nonzero : All (λ a. a ≢ replicate d 0) A

-- and in ascending order, where no entry is a member of the list of the others
pub record IsMinimalAffine (d : ℕ) (A : List (List ℕ)) : Type 0 where
  pub semigroup : IsAffineSemigroup d A
  pub ascending : AllPairs IsLexBelow A
  pub needed : (k : ℕ) → k < length A → IsVectorMember d (remove A k) (slice_index_or A k []) → ⊥

-- A is the minimal list of the affine semigroup of the vectors with P
pub record GeneratesAffine (d : ℕ) (P : List ℕ → Type 0) (A : List (List ℕ)) : Type 0 where
  pub minimal : IsMinimalAffine d A
  pub same : (v : List ℕ) → P v ↔ IsVectorMember d A v

-- the same numbers as naturals, and none where one is below 0
abbrev pub as_naturals : List ℤ → Option (List ℕ)
as_naturals [] = Some []
as_naturals (pos n ∷ xs) = option_map (λ ns. n ∷ ns) (as_naturals xs)
as_naturals (negsuc n ∷ xs) = None

-- a fact on vectors of naturals, asked of one of integers: it holds of none with an entry below 0
abbrev pub AtNaturals : (List ℕ → Type 0) → List ℤ → Type 0
AtNaturals P v = IsSomeAnd (as_naturals v) P

-- the factorizations of a vector of integers
abbrev pub IsIntegerVectorFactorization : ℕ → List (List ℕ) → List ℤ → List ℕ → Type 0
IsIntegerVectorFactorization d A v z = AtNaturals (λ u. IsVectorFactorization d A u z) v

-- no vector with an entry below 0 is a member
abbrev pub IsIntegerVectorMember : ℕ → List (List ℕ) → List ℤ → Type 0
IsIntegerVectorMember d A v = AtNaturals (IsVectorMember d A) v
