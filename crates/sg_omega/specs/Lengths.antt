-- Vectors that use only generators in whose Apery sets a member lies, and their greatest lengths.
use Rattle.std.specs.Prelude.{◌≡◌, ℕ, ◌+◌, ◌<◌, ◌≤◌, ◌↔◌, List, length, slice_index, sum}
use Rattle.sg_defs.specs.Membership.{IsMember}
use Rattle.sg_defs.specs.Vectors.{value_of}

-- the member v lies in the Apery set of g: with g taken away it is no member
abbrev pub IsInAperySet : List ℕ → ℕ → ℕ → Type 0
IsInAperySet G v g = (y : ℕ) → y + g ≡ v → IsMember G y → ⊥

-- with g taken away it is one
abbrev pub IsLowered : List ℕ → ℕ → ℕ → Type 0
IsLowered G v g = (y : ℕ) × (y + g ≡ v) × IsMember G y

-- z has value x, and uses only generators from place k on in whose Apery sets v lies
pub record IsMade (G : List ℕ) (v k x : ℕ) (z : List ℕ) : Type 0 where
  pub places : length z ≡ length G
  pub value : value_of G z ≡ x
  pub from : (j : ℕ) → 0 < slice_index z j → k ≤ j
  pub apery : (j : ℕ) → 0 < slice_index z j → IsInAperySet G v (slice_index G j)

-- c is one more than the greatest length of such a vector, and 0 where there is none
abbrev pub IsGreatestMade : List ℕ → ℕ → ℕ → ℕ → ℕ → Type 0
IsGreatestMade G v k x c = (l : ℕ) → (l < c) ↔ ((z : List ℕ) × IsMade G v k x z × (l ≤ sum z))

-- each entry is that number for its place
pub record AreGreatestMade (G : List ℕ) (v k : ℕ) (t : List ℕ) : Type 0 where
  pub each : (x : ℕ) → x < length t → IsGreatestMade G v k x (slice_index t x)
