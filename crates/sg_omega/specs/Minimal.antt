-- The minimal vectors above an element.
use Rattle.std.specs.Prelude.{◌≡◌, ℕ, ◌+◌, ◌<◌, ◌≤◌, List, length, slice_index, sum, Contains}
use Rattle.sg_defs.specs.Membership.{IsMember}
use Rattle.sg_defs.specs.Vectors.{value_of}

-- the value of z is n and a member v, and v is none once a generator at a positive place is taken away
pub record IsMinimalAbove (G : List ℕ) (n : ℕ) (z : List ℕ) : Type 0 where
  pub places : length z ≡ length G
  pub rest : ℕ
  pub member : IsMember G rest
  pub value : value_of G z ≡ n + rest
  pub minimal : (j y : ℕ) → 0 < slice_index z j → y + slice_index G j ≡ rest → IsMember G y → ⊥

-- N is the greatest length of these
pub record IsGreatestLength (G : List ℕ) (n N : ℕ) : Type 0 where
  pub bound : (z : List ℕ) → IsMinimalAbove G n z → sum z ≤ N
  pub reached : (z : List ℕ) × IsMinimalAbove G n z × (sum z ≡ N)

-- N is the greatest length of the minimal vectors above any of the wanted numbers
pub record IsGreatestOfAll (G wanted : List ℕ) (N : ℕ) : Type 0 where
  pub bound : (n : ℕ) (z : List ℕ) → Contains wanted n → IsMinimalAbove G n z → sum z ≤ N
  pub n : ℕ
  pub z : List ℕ
  pub is_wanted : Contains wanted n
  pub is_minimal : IsMinimalAbove G n z
  pub reached : sum z ≡ N
