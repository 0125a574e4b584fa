-- The least members of two semigroups together.
use Rattle.std.specs.Prelude.{◌≡◌, ℕ, ◌<◌, ◌≤◌, List, length, max, slice_index}
use Rattle.sg_classes.specs.declared.limits.TheConstants.{MULTIPLICITY_LIMIT}
use Rattle.sg_classes.specs.Classes.{IsAboveEntry}

-- n is above its entry in both lists, above 0 and within the limit on multiplicities
pub record IsCommonEntry (s t : List ℕ) (n : ℕ) : Type 0 where
  pub positive : 0 < n
  pub small : n ≤ MULTIPLICITY_LIMIT
  pub first : IsAboveEntry s n
  pub second : IsAboveEntry t n

-- the greater of the two entries in each class
pub record AreGreaterEntries (s t list : List ℕ) : Type 0 where
  pub long : length list ≡ length s
  pub entries : (i : ℕ) → i < length s → slice_index list i ≡ max (slice_index s i) (slice_index t i)
