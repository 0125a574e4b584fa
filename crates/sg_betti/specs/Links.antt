-- The graph of the places of an element, and how a search parts it.
use Rattle.std.specs.Prelude.{◌≡◌, ℕ, ◌+◌, ◌↔◌, ◌⊎◌, List, slice_index, Contains}
use Rattle.sg_defs.specs.Membership.{IsFactorization, IsMember}
use Rattle.sg_laws_families.specs.PlaceGraph.{IsVertex, AreConnected}

-- n without generators i and j is a member
abbrev pub IsLink : List ℕ → ℕ → ℕ → ℕ → Type 0
IsLink G n i j = (m : ℕ) × (m + slice_index G i + slice_index G j ≡ n) × IsMember G m

-- the one list holds the places of n that are connected with the root, the other the places that are not
pub record IsParted (G : List ℕ) (n root : ℕ) (reached left : List ℕ) : Type 0 where
  pub inside : (k : ℕ) → Contains reached k ↔ AreConnected (IsFactorization G n) root k
  pub outside : (k : ℕ) → Contains left k ↔ (IsVertex (IsFactorization G n) k × ¬ AreConnected (IsFactorization G n) root k)
  pub whole : (k : ℕ) → IsVertex (IsFactorization G n) k → Contains reached k ⊎ Contains left k
