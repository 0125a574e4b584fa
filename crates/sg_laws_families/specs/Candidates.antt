-- Where the elements with two classes lie.
use Rattle.std.specs.Prelude.{◌≡◌, ℕ, ◌+◌, ◌%◌, ◌<◌, List, length, slice_index}
use Rattle.sg_defs.specs.Apery.{IsAperyEntry}

-- n is the sum of an entry of the Apery list of the first generator and a later generator
pub record IsBettiCandidate (G : List ℕ) (n : ℕ) : Type 0 where
  pub place : ℕ
  pub after_first : 0 < place
  pub in_range : place < length G
  pub rest : ℕ
  pub entry : IsAperyEntry G (slice_index G 0) (rest % slice_index G 0) rest
  pub sum : n ≡ rest + slice_index G place
