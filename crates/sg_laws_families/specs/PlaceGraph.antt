-- The graph on the places whose components are the classes of a set of vectors.
use Rattle.std.specs.Prelude.{◌≡◌, ℕ, ◌<◌, List, slice_index}
use Rattle.sg_nonunique.specs.Classes.{IsSameClass}
use Rattle.sg_nonunique.specs.Walks.{IsJoined}

-- some vector of V is positive at place i
abbrev pub IsVertex : (List ℕ → Type 0) → ℕ → Type 0
IsVertex V i = (z : List ℕ) × V z × (0 < slice_index z i)

-- some vector of V is positive at both places
abbrev pub IsEdge : (List ℕ → Type 0) → ℕ → ℕ → Type 0
IsEdge V i j = (z : List ℕ) × V z × (0 < slice_index z i) × (0 < slice_index z j)

-- a path leads from the one place to the other
abbrev pub AreConnected : (List ℕ → Type 0) → ℕ → ℕ → Type 0
AreConnected V i j = IsJoined (IsVertex V) (IsEdge V) i j

-- i is the least place at which a vector of the class of x is positive
pub record IsFirstPlace (V : List ℕ → Type 0) (x : List ℕ) (i : ℕ) : Type 0 where
  pub before : (z : List ℕ) → IsSameClass V x z → (k : ℕ) → k < i → slice_index z k ≡ 0
  pub reached : (z : List ℕ) × IsSameClass V x z × (0 < slice_index z i)
