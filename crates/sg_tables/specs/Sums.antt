-- Bounds for the sums of two members, by residue classes modulo the number of bounds.
use Rattle.std.specs.Prelude.{◌≡◌, ℕ, ◌+◌, ◌%◌, ◌<◌, ◌≤◌, List, length, slice_index}
use Rattle.sg_defs.specs.Membership.{IsMember}
use Rattle.sg_classes.specs.Classes.{IsAboveEntry}

-- no entry of D is below the number of its class
abbrev pub AreBelowEntries : List ℕ → List ℕ → Type 0
AreBelowEntries D l = (k : ℕ) → k < length D → IsAboveEntry l (slice_index D k)

-- x is at most the sum of any two numbers whose classes make c
abbrev pub IsBelowSumsAt : List ℕ → ℕ → ℕ → Type 0
IsBelowSumsAt l c x = (i j : ℕ) → i < length l → j < length l → (i + j) % length l ≡ c → x ≤ slice_index l i + slice_index l j

-- the bound of each class is at most the sum of any two numbers of l whose classes make it
pub record AreBelowSums (l bounds : List ℕ) : Type 0 where
  pub long : length bounds ≡ length l
  pub below : (c : ℕ) → c < length l → IsBelowSumsAt l c (slice_index bounds c)

-- no number is greater than before
pub record IsLowered (old now : List ℕ) : Type 0 where
  pub long : length now ≡ length old
  pub down : (i : ℕ) → i < length old → slice_index now i ≤ slice_index old i

-- the sum of two members above 0 is at least the bound of its class
pub record AreSumBounds (D bounds : List ℕ) : Type 0 where
  pub not_empty : 0 < length bounds
  pub sums : (a b : ℕ) → 0 < a → 0 < b → IsMember D a → IsMember D b → IsAboveEntry bounds (a + b)
