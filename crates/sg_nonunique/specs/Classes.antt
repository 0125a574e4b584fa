-- R-classes of a set of vectors, and elements with two of them, which are called Betti elements.
use Rattle.std.specs.Prelude.{ℕ, ◌<◌, List, slice_index}
use Rattle.sg_nonunique.specs.Walks.{IsJoined}

-- some place is positive in both
abbrev pub Share : List ℕ → List ℕ → Type 0
Share x y = (k : ℕ) × (0 < slice_index x k) × (0 < slice_index y k)

-- a walk inside V leads from x to y, each two neighbours of which share
abbrev pub IsSameClass : (List ℕ → Type 0) → List ℕ → List ℕ → Type 0
IsSameClass V x y = IsJoined V Share x y

-- V has two vectors that are not in the same class
abbrev pub HasTwoClasses : (List ℕ → Type 0) → Type 0
HasTwoClasses V = (x y : List ℕ) × V x × V y × (IsSameClass V x y → ⊥)
