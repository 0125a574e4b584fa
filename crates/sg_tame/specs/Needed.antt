-- The numbers that are looked at.
use Rattle.std.specs.Prelude.{◌≡◌, ℕ, ◌+◌, ◌<◌, List, length, slice_index}
use Rattle.sg_defs.specs.Membership.{IsMember}
use Rattle.sg_omega.specs.Lengths.{IsInAperySet}

-- the member w lies in the Apery set of some generator
abbrev pub IsInSomeAperySet : List ℕ → ℕ → Type 0
IsInSomeAperySet G w = (j : ℕ) × (j < length G) × IsInAperySet G w (slice_index G j)

-- v is the sum of such a member and g
abbrev pub IsNeededAt : List ℕ → ℕ → ℕ → Type 0
IsNeededAt G v g = (w : ℕ) × (w + g ≡ v) × IsMember G w × IsInSomeAperySet G w

-- and g some generator
abbrev pub IsNeeded : List ℕ → ℕ → Type 0
IsNeeded G v = (i : ℕ) × (i < length G) × IsNeededAt G v (slice_index G i)

-- z uses only generators in whose Apery sets the member w lies
abbrev pub IsUsedMinimally : List ℕ → ℕ → List ℕ → Type 0
IsUsedMinimally G w z = (j : ℕ) → 0 < slice_index z j → IsInAperySet G w (slice_index G j)
