-- What holds of a table while generators are followed round their circles of classes.
use Rattle.std.specs.Prelude.{◌≡◌, ℕ, ◌+◌, ◌*◌, ◌%◌, ◌<◌, ◌≤◌, ◌⊎◌, List, length, slice_index}
use Rattle.sg_defs.specs.Membership.{IsMember}
use Rattle.sg_classes.specs.Classes.{IsAboveEntry}
use Rattle.sg_tables.specs.declared.spread.TheConstants.{UNREACHED}

-- entry 0 is 0, and each other is a member of its class, or UNREACHED where none is known
pub record AreKnown (M t : List ℕ) : Type 0 where
  pub not_empty : 0 < length t
  pub zero : slice_index t 0 ≡ 0
  pub entry : (i : ℕ) → i < length t → (slice_index t i ≡ UNREACHED) ⊎ (IsMember M (slice_index t i) × (slice_index t i % length t ≡ i))

-- no member is below the entry of its class
abbrev pub AreBelowMembers : List ℕ → List ℕ → Type 0
AreBelowMembers M t = (x : ℕ) → IsMember M x → IsAboveEntry t x

-- g leads from entry i to no greater entry than their sum
abbrev pub IsClosedAt : List ℕ → ℕ → ℕ → Type 0
IsClosedAt t g i = slice_index t ((i + g) % length t) ≤ slice_index t i + g

-- entries on the circle of class r were lowered, and no others
pub record IsLoweredOn (g r : ℕ) (old t : List ℕ) : Type 0 where
  pub long : length t ≡ length old
  pub down : (i : ℕ) → i < length old → slice_index t i ≤ slice_index old i
  pub circle : (i : ℕ) → i < length old → (slice_index t i ≡ slice_index old i) ⊎ ((j : ℕ) × (i ≡ (r + j * g) % length old))

-- g leads from none of the first n classes of the circle of r to a greater entry, but maybe from class i
abbrev pub IsFollowedBut : List ℕ → ℕ → ℕ → ℕ → ℕ → Type 0
IsFollowedBut t g r n i = (j : ℕ) → j < n → ((r + j * g) % length t ≡ i) ⊎ IsClosedAt t g ((r + j * g) % length t)

-- g leads from none of the first n classes of the circle of r to a greater entry
abbrev pub IsFollowed : List ℕ → ℕ → ℕ → ℕ → Type 0
IsFollowed t g r n = (j : ℕ) → j < n → IsClosedAt t g ((r + j * g) % length t)
