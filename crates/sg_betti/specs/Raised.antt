-- The greatest factorizations of classes, and the relations between them.
use Rattle.std.specs.Prelude.{◌≡◌, ℕ, ◌↔◌, List, [], ◌++◌, slice_index, slice_index_or, AllPairs, Contains}
use Rattle.sg_defs.specs.Membership.{IsFactorization}
use Rattle.sg_defs.specs.Vectors.{IsLexBelow}
use Rattle.sg_nonunique.specs.Classes.{IsSameClass}
use Rattle.sg_nonunique.specs.Presentations.{IsCanonicalRelation, IsLexGreatest, Relation}
use Rattle.sg_laws_families.specs.PlaceGraph.{IsFirstPlace}

-- y is the greatest vector of the class of n that has this place for its first
abbrev pub IsGreatestFrom : List ℕ → ℕ → ℕ → List ℕ → Type 0
IsGreatestFrom G n place y = (x : List ℕ) → IsFirstPlace (IsFactorization G n) x place → IsLexGreatest (λ z. IsSameClass (IsFactorization G n) x z) y

-- the first place of row k
abbrev pub head_of : List (List ℕ) → ℕ → ℕ
head_of rows k = slice_index (slice_index_or rows k []) 0

-- the canonical relations of n, the greater right side first, were put behind the others
pub record AddsRelations (F : ℕ → List ℕ → Type 0) (n : ℕ) (old new : List (Relation ℕ)) : Type 0 where
  pub more : List (Relation ℕ)
  pub added : new ≡ old ++ more
  pub ordered : AllPairs (λ r s. IsLexBelow s.right r.right) more
  pub exactly : (r : Relation ℕ) → Contains more r ↔ ((r.value ≡ n) × IsCanonicalRelation F r)
