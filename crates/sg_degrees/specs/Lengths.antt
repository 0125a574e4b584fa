-- Lengths of the vectors of a set: the least of each class, and the widest gap between neighbours.
use Rattle.std.specs.Prelude.{◌≡◌, ℕ, ◌<◌, ◌≤◌, List, length, slice_index, sum, Contains}
use Rattle.sg_nonunique.specs.Classes.{IsSameClass}
use Rattle.sg_nonunique.specs.Deltas.{IsDelta}
use Rattle.sg_factor.specs.LengthTables.{IsLeastLength}

-- each entry is 0 where its place is no member, and else one more than the least length of its place
abbrev pub AreLeastLengths : List ℕ → List ℕ → Type 0
AreLeastLengths G least = (n : ℕ) → n < length least → IsLeastLength G n (slice_index least n)

-- N is the least length of a vector of V that is positive at some place of the row
pub record IsShortestAt (V : List ℕ → Type 0) (row : List ℕ) (N : ℕ) : Type 0 where
  pub place : ℕ
  pub listed : Contains row place
  pub vector : List ℕ
  pub member : V vector
  pub positive : 0 < slice_index vector place
  pub is_length : sum vector ≡ N
  pub least : (i : ℕ) (x : List ℕ) → Contains row i → V x → 0 < slice_index x i → N ≤ sum x

-- N is the greatest, over the classes of V, of the least length in the class
pub record IsLongestClass (V : List ℕ → Type 0) (N : ℕ) : Type 0 where
  pub bound : (x : List ℕ) → V x → (a : List ℕ) × IsSameClass V x a × (sum a ≤ N)
  pub vector : List ℕ
  pub member : V vector
  pub reached : (a : List ℕ) → IsSameClass V vector a → N ≤ sum a

-- D is the greatest delta of V, and 0 where it has none
pub record IsWidest (V : List ℕ → Type 0) (D : ℕ) : Type 0 where
  pub bound : (d : ℕ) → IsDelta V d → d ≤ D
  pub reached : 0 < D → IsDelta V D
