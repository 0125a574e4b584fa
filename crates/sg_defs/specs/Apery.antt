-- Apery lists.
use Rattle.std.specs.Prelude.{◌≡◌, ℕ, ◌+◌, ◌%◌, ◌<◌, List, length, slice_index}
use Rattle.sg_defs.specs.Membership.{IsMember}

-- entry i of t is the member that is congruent to i modulo n, and whose difference with n is no member
pub record IsApery (G : List ℕ) (n : ℕ) (t : List ℕ) : Type 0 where
  pub entries : length t ≡ n
  pub member : (i : ℕ) → i < n → IsMember G (slice_index t i)
  pub residue : (i : ℕ) → i < n → slice_index t i % n ≡ i
  pub least : (i y : ℕ) → i < n → y + n ≡ slice_index t i → IsMember G y → ⊥

-- w is entry i of the Apery list modulo n
pub record IsAperyEntry (G : List ℕ) (n i w : ℕ) : Type 0 where
  pub member : IsMember G w
  pub residue : w % n ≡ i
  pub least : (y : ℕ) → y + n ≡ w → IsMember G y → ⊥
