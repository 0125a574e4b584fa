-- From an Apery list to that modulo another member.
use Rattle.std.specs.Prelude.{◌≡◌, ℕ, ◌+◌, ◌*◌, ◌%◌, ◌<◌, ◌≤◌, List, length, slice_index}
use Rattle.sg_classes.specs.Classes.{IsAboveEntry}
use Rattle.sg_tables.specs.declared.modulus.Range.{Range}

-- class i has a member after j steps by n
abbrev pub IsMet : List ℕ → ℕ → ℕ → ℕ → Type 0
IsMet t n i j = IsAboveEntry t (i + j * n)

-- n may be added to what is in the set
abbrev pub Adds : List ℕ → ℕ → Type 0
Adds t n = (x : ℕ) → IsAboveEntry t x → IsAboveEntry t (x + n)

-- the first member of class i comes after at least the low number of steps, and at most the high one
pub record IsRange (t : List ℕ) (n i end : ℕ) (r : Range) : Type 0 where
  pub order : r.low ≤ r.high
  pub within : r.high ≤ end
  pub met : IsMet t n i r.high
  pub not_before : (j : ℕ) → j < r.low → IsMet t n i j → ⊥

-- the first member of class i comes after j steps
pub record IsFirst (t : List ℕ) (n i end j : ℕ) : Type 0 where
  pub within : j ≤ end
  pub met : IsMet t n i j
  pub not_before : (k : ℕ) → k < j → IsMet t n i k → ⊥

-- entry i is the least number of class i modulo n that is in the set, for the first k classes
pub record AreFirst (t : List ℕ) (n : ℕ) (l : List ℕ) (k : ℕ) : Type 0 where
  pub long : length l ≡ k
  pub residue : (i : ℕ) → i < k → slice_index l i % n ≡ i
  pub inside : (i : ℕ) → i < k → IsAboveEntry t (slice_index l i)
  pub least : (i x : ℕ) → i < k → x % n ≡ i → IsAboveEntry t x → slice_index l i ≤ x
