-- Vectors whose distances are told.
use Rattle.std.specs.Prelude.{◌≡◌, ℕ, ◌<◌, ◌^◌, List, [], length, sum, slice_index_or}

-- they have as many places, and lengths that fit
pub record AreComparable (rows : List (List ℕ)) : Type 0 where
  pub places : (i j : ℕ) → i < length rows → j < length rows → length (slice_index_or rows i []) ≡ length (slice_index_or rows j [])
  pub small : (i : ℕ) → i < length rows → sum (slice_index_or rows i []) < 2 ^ 63
