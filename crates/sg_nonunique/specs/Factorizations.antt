-- All factorizations of an element, and their lengths.
use Rattle.std.specs.Prelude.{◌≡◌, ℕ, ℤ, List, sum}
use Rattle.sg_defs.specs.Membership.{IsFactorization, AtNatural}
use Rattle.sg_defs.specs.Vectors.{ListsDescending}

-- the factorizations of an integer: one below 0 has none
abbrev pub IsIntegerFactorization : List ℕ → ℤ → List ℕ → Type 0
IsIntegerFactorization G x z = AtNatural (λ n. IsFactorization G n z) x

-- l has all factorizations of x, in descending lexicographic order
abbrev pub AreFactorizations : List ℕ → ℤ → List (List ℕ) → Type 0
AreFactorizations G x l = ListsDescending (IsIntegerFactorization G x) l

-- some vector of the set V has this length
abbrev pub IsLengthIn : (List ℕ → Type 0) → ℕ → Type 0
IsLengthIn V n = (z : List ℕ) × V z × (sum z ≡ n)
