-- Semigroups by the least member in each residue class.
use Rattle.std.specs.Prelude.{◌≡◌, ℕ, ◌+◌, ◌%◌, ◌<◌, ◌≤◌, List, length, slice_index, ◌⊎◌}

-- n is at least the entry of its residue class modulo the number of entries
abbrev pub IsAboveEntry : List ℕ → ℕ → Type 0
IsAboveEntry t n = slice_index t (n % length t) ≤ n

-- entry 0 is 0, and entry i is congruent to i modulo the number of entries
pub record IsClassList (t : List ℕ) : Type 0 where
  pub not_empty : 0 < length t
  pub zero : slice_index t 0 ≡ 0
  pub residue : (i : ℕ) → i < length t → slice_index t i % length t ≡ i

-- Kunz's conditions: such a list, in which the sum of two entries is at least the entry of its class
pub record IsKunz (t : List ℕ) : Type 0 where
  pub classes : IsClassList t
  pub sums : (i j : ℕ) → i < length t → j < length t → slice_index t ((i + j) % length t) ≤ slice_index t i + slice_index t j

-- the first k numbers of the list lowered the entries of their classes
pub record IsLoweredBy (list old now : List ℕ) (k : ℕ) : Type 0 where
  pub long : length now ≡ length old
  pub entries : (i : ℕ) → i < length old →
      (slice_index now i ≡ slice_index old i) ⊎ ((j : ℕ) × (j < k) × (slice_index now i ≡ slice_index list j) × (slice_index list j % length old ≡ i))
  pub down : (i : ℕ) → i < length old → slice_index now i ≤ slice_index old i
  pub listed : (j : ℕ) → j < k → slice_index now (slice_index list j % length old) ≤ slice_index list j
