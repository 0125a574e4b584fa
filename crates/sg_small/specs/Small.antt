-- What is found of an ascending list of small elements.
use Rattle.std.specs.Prelude.{◌≡◌, ℕ, ◌+◌, ◌-◌, ◌%◌, ◌<◌, ◌≤◌, ◌⊎◌, Bool, true, false, List, length, slice_index, slice_index_or, Contains}
use Rattle.std.specs.List.Sorted.{IsStrictlyIncreasing}
use Rattle.sg_small.specs.Sets.{IsInSmall}

-- ascending from 0 on
pub record AreSmallElements (list : List ℕ) : Type 0 where
  pub not_empty : 0 < length list
  pub ascending : IsStrictlyIncreasing list
  pub zero : slice_index list 0 ≡ 0

-- entry p is the sum of two entries above 0
abbrev pub IsSumAt : List ℕ → ℕ → Type 0
IsSumAt list p = (j k : ℕ) × (0 < j) × (0 < k) × (j < length list) × (k < length list) × (slice_index list p ≡ slice_index list j + slice_index list k)

-- the sums of entry i and the entries are in the set
abbrev pub IsClosedAt : List ℕ → ℕ → Type 0
IsClosedAt list i = (j : ℕ) → j < length list → IsInSmall list (slice_index list i + slice_index list j)

-- each marked entry is a sum
abbrev pub AreMarked : List ℕ → List Bool → Type 0
AreMarked list marked = (p : ℕ) → p < length list → slice_index_or marked p false ≡ true → IsSumAt list p

-- the number before the last entry is not in the set
abbrev pub HasGapBelowLast : List ℕ → Type 0
HasGapBelowLast list = (n : ℕ) → n + 1 ≡ slice_index list (length list - 1) → IsInSmall list n → ⊥

-- from place s to before place n each entry is the one before it and 1
abbrev pub IsRun : List ℕ → ℕ → ℕ → Type 0
IsRun list s n = (k : ℕ) → s + k < n → slice_index list (s + k) ≡ slice_index list s + k

-- between the entry at place s and the one before it there are other numbers
abbrev pub HasGapBefore : List ℕ → ℕ → Type 0
HasGapBefore list s = 0 < s → slice_index list (s - 1) + 1 < slice_index list s

-- entry i is the least number from start on with residue i modulo m
pub record AreLeastFrom (start m : ℕ) (t : List ℕ) : Type 0 where
  pub long : length t ≡ m
  pub residue : (i : ℕ) → i < m → slice_index t i % m ≡ i
  pub above : (i : ℕ) → i < m → start ≤ slice_index t i
  pub least : (i x : ℕ) → i < m → start ≤ x → x % m ≡ i → slice_index t i ≤ x

-- the list has the numbers below n that are no gaps, and the gaps below n are those before place next
pub record IsComplement (gaps list : List ℕ) (next n : ℕ) : Type 0 where
  pub before : (k : ℕ) → k < next → slice_index gaps k < n
  pub after : (k : ℕ) → next ≤ k → k < length gaps → n ≤ slice_index gaps k
  pub ascending : IsStrictlyIncreasing list
  pub listed : (k : ℕ) → k < length list → (slice_index list k < n) × (Contains gaps (slice_index list k) → ⊥)
  pub whole : (x : ℕ) → x < n → Contains gaps x ⊎ Contains list x
