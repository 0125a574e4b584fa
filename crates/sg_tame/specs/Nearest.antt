-- Nearest vectors, and what the greatest of their distances is.
use Rattle.std.specs.Prelude.{◌≡◌, ℕ, ◌<◌, ◌≤◌, ◌↔◌, List, [], length, slice_index, slice_index_or}
use Rattle.sg_defs.specs.Membership.{IsFactorization}
use Rattle.sg_defs.specs.Vectors.{value_of, distance, ListsDescending}
use Rattle.sg_factor.specs.Nearness.{AreComparable}
use Rattle.sg_omega.specs.Minimal.{IsMinimalAbove}
use Rattle.sg_tame.specs.Needed.{IsUsedMinimally}
use Rattle.sg_tame.specs.Tame.{IsNear}

-- r is at most N exactly where a is and N meets P: r is the least number from a on that meets P
abbrev pub IsLeastFrom : ℕ → (ℕ → Type 0) → ℕ → Type 0
IsLeastFrom a P r = (N : ℕ) → (r ≤ N) ↔ ((a ≤ N) × P N)

-- y has a positive number at place i and is at distance at most N from z
abbrev pub IsNearVector : List ℕ → List ℕ → ℕ → ℕ → Type 0
IsNearVector z y i N = (0 < slice_index y i) × (distance z y ≤ N)

-- some row is such a vector, for the row at k
abbrev pub IsNearRow : List (List ℕ) → ℕ → ℕ → ℕ → Type 0
IsNearRow rows k i N = (l : ℕ) × (l < length rows) × IsNearVector (slice_index_or rows k []) (slice_index_or rows l []) i N

-- vectors of e places whose distances are told, some of them with a positive number at place i
pub record HavePositive (e : ℕ) (rows : List (List ℕ)) (i : ℕ) : Type 0 where
  pub comparable : AreComparable rows
  pub places : (k : ℕ) → k < length rows → length (slice_index_or rows k []) ≡ e
  pub inside : i < e
  pub some : (k : ℕ) × (k < length rows) × (0 < slice_index (slice_index_or rows k []) i)

-- so it is for the row at k, where that uses only generators in whose Apery sets the member w lies
abbrev pub IsRowNear : List ℕ → ℕ → List (List ℕ) → ℕ → ℕ → ℕ → Type 0
IsRowNear G w rows i k N = IsUsedMinimally G w (slice_index_or rows k []) → IsNearRow rows k i N

-- for each row
abbrev pub AreRowsNear : List ℕ → ℕ → List (List ℕ) → ℕ → ℕ → Type 0
AreRowsNear G w rows i N = (k : ℕ) → k < length rows → IsRowNear G w rows i k N

-- all factorizations of v, and their distances are told
pub record AreAllOf (G : List ℕ) (v : ℕ) (rows : List (List ℕ)) : Type 0 where
  pub listed : ListsDescending (IsFactorization G v) rows
  pub comparable : AreComparable rows

-- from each factorization of v that is minimal above generator i one that uses it is at distance at most N
abbrev pub AreNearAt : List ℕ → ℕ → ℕ → ℕ → Type 0
AreNearAt G v i N = (z : List ℕ) → IsMinimalAbove G (slice_index G i) z → value_of G z ≡ v → IsNear G v i z N

-- for each generator
abbrev pub AreNearBy : List ℕ → ℕ → ℕ → Type 0
AreNearBy G v N = (i : ℕ) → i < length G → AreNearAt G v i N
