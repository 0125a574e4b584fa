-- The least numbers of a cover in their residue classes.
use Rattle.std.specs.Prelude.{◌≡◌, ℕ, ℤ, pos, ◌≤ℤ◌, slice_index_or, ◌+◌, ◌%◌, ◌<◌, List, length, slice_index}
use Rattle.sg_defs.specs.Decomposition.{IsInCover}
use Rattle.sg_classes.specs.declared.limits.TheConstants.{APERY_ENTRY_LIMIT}

-- n less the multiplicity lies in the cover of h
abbrev pub HasLesser : List ℕ → ℤ → ℕ → Type 0
HasLesser G h n = (y : ℕ) × (y + slice_index G 0 ≡ n) × IsInCover G h y

-- w lies in the cover of h and in the class of n modulo the multiplicity, and less the multiplicity it does not
pub record IsLeastInCover (G : List ℕ) (h : ℤ) (n w : ℕ) : Type 0 where
  pub covered : IsInCover G h w
  pub residue : w % slice_index G 0 ≡ n % slice_index G 0
  pub least : HasLesser G h w → ⊥

-- the list holds the least number of each of the first n classes
pub record IsCoverList (G : List ℕ) (h : ℤ) (n : ℕ) (l : List ℕ) : Type 0 where
  pub entries : length l ≡ n
  pub each : (i : ℕ) → i < n → IsLeastInCover G h i (slice_index l i)

-- each entry is a natural, and at most the greatest entry of an Apery list
abbrev pub AreNatural : List ℤ → Type 0
AreNatural xs = (k : ℕ) → k < length xs → (pos 0 ≤ℤ slice_index_or xs k (pos 0)) × (slice_index_or xs k (pos 0) ≤ℤ pos APERY_ENTRY_LIMIT)
