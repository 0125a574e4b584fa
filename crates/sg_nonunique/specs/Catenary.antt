-- Chains of factorizations, and the catenary degree.
use Rattle.std.specs.Prelude.{ℕ, ◌<◌, ◌≤◌, List}
use Rattle.sg_defs.specs.Vectors.{distance}
use Rattle.sg_nonunique.specs.Walks.{IsJoined}

-- any two vectors of V are joined inside V by steps of distance at most N
abbrev pub IsChained : (List ℕ → Type 0) → ℕ → Type 0
IsChained V N = (x y : List ℕ) → V x → V y → IsJoined V (λ a b. distance a b ≤ N) x y

-- the least number that chains V
pub record IsCatenaryOf (V : List ℕ → Type 0) (c : ℕ) : Type 0 where
  pub chained : IsChained V c
  pub least : (c' : ℕ) → c' < c → IsChained V c' → ⊥

-- the least number that chains the factorizations of every element: each lesser one leaves those of some element unchained
pub record IsCatenary {I : Type 0} (F : I → List ℕ → Type 0) (c : ℕ) : Type 0 where
  pub chained : (n : I) → IsChained (F n) c
  pub least : (c' : ℕ) → c' < c → (n : I) × (IsChained (F n) c' → ⊥)
