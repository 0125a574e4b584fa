-- Tables that bound what generators make from below, in each residue class.
use Rattle.std.specs.Prelude.{◌≡◌, ℕ, ◌+◌, ◌-◌, ◌%◌, ◌<◌, ◌≤◌, List, [], length, drop, slice_index, slice_index_or, EachIndex}
use Rattle.sg_defs.specs.Membership.{IsMember}
use Rattle.sg_classes.specs.Classes.{IsAboveEntry}

-- for each list of the last generators a table: no member is below the entry of its class
pub record AreBounds (G : List ℕ) (bounds : List (List ℕ)) : Type 0 where
  pub long : length G ≤ length bounds
  pub filled : (k : ℕ) → k < length bounds → 0 < length (slice_index_or bounds k [])
  pub below : (k x : ℕ) → k < length G → IsMember (drop k G) x → IsAboveEntry (slice_index_or bounds (length G - 1 - k) []) x

-- no entry has grown
pub record AreLowered (old new : List ℕ) : Type 0 where
  pub long : length new ≡ length old
  pub lower : EachIndex new (λ i. slice_index new i ≤ slice_index old i)

-- one more g leads from class i to no lower bound
abbrev pub IsClosedAt : List ℕ → ℕ → ℕ → Type 0
IsClosedAt t g i = slice_index t ((i + g) % length t) ≤ slice_index t i + g

-- from no class
abbrev pub IsClosed : List ℕ → ℕ → Type 0
IsClosed t g = EachIndex t (IsClosedAt t g)
