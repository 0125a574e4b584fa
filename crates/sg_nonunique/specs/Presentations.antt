-- Presentations: pairs of factorizations that join all factorizations of every element.
use Rattle.std.specs.Prelude.{◌≡◌, ℕ, ◌<◌, ◌⊎◌, List, length, remove, Contains, AllPairs, ⊤}
use Rattle.sg_defs.specs.Vectors.{plus, IsLexBelow}
use Rattle.sg_nonunique.specs.Walks.{IsJoined}
use Rattle.sg_nonunique.specs.Classes.{IsSameClass}

-- two factorizations of one element, their value
pub record Relation (I : Type 0) : Type 0 where
  pub value : I
  pub left : List ℕ
  pub right : List ℕ

-- both sides are factorizations of the relation's value
abbrev pub AreRelations : {I : Type 0} → (I → List ℕ → Type 0) → List (Relation I) → Type 0
AreRelations {I} F P = (r : Relation I) → Contains P r → F r.value r.left × F r.value r.right

-- from x to y by a relation a, b of P and a vector c: x is a + c and y is b + c, or the other way round
pub record IsStep {I : Type 0} (P : List (Relation I)) (x y : List ℕ) : Type 0 where
  pub relation : Relation I
  pub listed : Contains P relation
  pub rest : List ℕ
  pub places : length rest ≡ length relation.left
  pub step : ((x ≡ plus relation.left rest) × (y ≡ plus relation.right rest))
      ⊎ ((x ≡ plus relation.right rest) × (y ≡ plus relation.left rest))

-- steps of P lead from x to y
abbrev pub AreJoined : {I : Type 0} → List (Relation I) → List ℕ → List ℕ → Type 0
AreJoined P x y = IsJoined (λ _. ⊤) (IsStep P) x y

-- any two factorizations of any element are joined
abbrev pub Presents : {I : Type 0} → (I → List ℕ → Type 0) → List (Relation I) → Type 0
Presents {I} F P = (n : I) (x y : List ℕ) → F n x → F n y → AreJoined P x y

-- without any one relation, two factorizations of some element are not joined
abbrev pub IsNoneSpare : {I : Type 0} → (I → List ℕ → Type 0) → List (Relation I) → Type 0
IsNoneSpare {I} F P = (k : ℕ) → k < length P →
    (n : I) × (x y : List ℕ) × F n x × F n y × (AreJoined (remove P k) x y → ⊥)

-- the lexicographically greatest vector of V
pub record IsLexGreatest (V : List ℕ → Type 0) (x : List ℕ) : Type 0 where
  pub member : V x
  pub greatest : (y : List ℕ) → V y → IsLexBelow x y → ⊥

-- the greatest factorization of the value, and the greatest of another class of it
pub record IsCanonicalRelation {I : Type 0} (F : I → List ℕ → Type 0) (r : Relation I) : Type 0 where
  pub left : IsLexGreatest (F r.value) r.left
  pub right : IsLexGreatest (λ y. IsSameClass (F r.value) r.right y) r.right
  pub apart : IsSameClass (F r.value) r.left r.right → ⊥

-- all of these, the lesser value first, and for one value the greater right side first
pub record IsCanonical {I : Type 0} (IsLess : I → I → Type 0) (F : I → List ℕ → Type 0) (P : List (Relation I)) : Type 0 where
  pub ordered : AllPairs (λ r s. IsLess r.value s.value ⊎ ((r.value ≡ s.value) × IsLexBelow s.right r.right)) P
  pub canonical : (r : Relation I) → Contains P r → IsCanonicalRelation F r
  pub whole : (r : Relation I) → IsCanonicalRelation F r → Contains P r
