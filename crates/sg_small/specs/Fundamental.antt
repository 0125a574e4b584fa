-- Semigroups by their fundamental gaps.
use Rattle.std.specs.Prelude.{◌≡◌, ℕ, ◌<◌, ◌≤◌, Bool, true, false, List, length, slice_index, slice_index_or, EachIndex}
use Rattle.std.specs.Int.{◌∣◌}
use Rattle.sg_classes.specs.declared.limits.TheConstants.{FUNDAMENTAL_GAP_LIMIT}

-- n divides an entry
abbrev pub DividesAnEntry : List ℕ → ℕ → Type 0
DividesAnEntry list n = (k : ℕ) × (k < length list) × (n ∣ slice_index list k)

-- n divides no entry
abbrev pub DividesNone : List ℕ → ℕ → Type 0
DividesNone list n = DividesAnEntry list n → ⊥

-- no entry is past the limit
abbrev pub AreWithin : List ℕ → Type 0
AreWithin list = EachIndex list (λ k. slice_index list k ≤ FUNDAMENTAL_GAP_LIMIT)

-- an entry is past the limit
abbrev pub HasPast : List ℕ → Type 0
HasPast list = (k : ℕ) × (k < length list) × (FUNDAMENTAL_GAP_LIMIT < slice_index list k)

-- place x is marked
abbrev pub IsMarked : List Bool → ℕ → Type 0
IsMarked marks x = slice_index_or marks x false ≡ true

-- a multiple of d above 0 is marked
abbrev pub HasMarkedMultiple : List Bool → ℕ → Type 0
HasMarkedMultiple marks d = (x : ℕ) × (0 < x) × (d ∣ x) × IsMarked marks x

-- d is above 0 and a multiple of it above 0 is marked
abbrev pub IsDivisor : List Bool → ℕ → Type 0
IsDivisor marks d = (0 < d) × HasMarkedMultiple marks d
