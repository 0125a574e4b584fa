-- The components of the graph of the places of an element, and the classes that they stand for.
use Rattle.std.specs.Prelude.{ℕ, ◌<◌, ◌↔◌, List, length, slice_index, All, AllPairs, Contains}
use Rattle.sg_defs.specs.Listings.{Lists}
use Rattle.sg_nonunique.specs.Classes.{IsSameClass}
use Rattle.sg_laws_families.specs.PlaceGraph.{IsVertex, AreConnected}

-- place i is in one of the rows
abbrev pub IsInSomeRow : List (List ℕ) → ℕ → Type 0
IsInSomeRow rows i = (r : List ℕ) × Contains rows r × Contains r i

-- each row lists the places that are connected with its first one; the row with the lesser first place comes first, and
-- each place of the graph is in one row
pub record AreComponents (V : List ℕ → Type 0) (rows : List (List ℕ)) : Type 0 where
  pub not_empty : All (λ r. 0 < length r) rows
  pub connected : All (λ r. Lists (AreConnected V (slice_index r 0)) r) rows
  pub ordered : AllPairs (λ r s. slice_index r 0 < slice_index s 0) rows
  pub whole : (i : ℕ) → IsVertex V i ↔ IsInSomeRow rows i
  pub apart : AllPairs (λ r s. (i : ℕ) → Contains r i → Contains s i → ⊥) rows

-- the positive places of both vectors are in one row
abbrev pub AreInOneRow : List (List ℕ) → List ℕ → List ℕ → Type 0
AreInOneRow rows x y = (r : List ℕ) × Contains rows r × ((k : ℕ) → 0 < slice_index x k → Contains r k) × ((k : ℕ) → 0 < slice_index y k → Contains r k)

-- two vectors of V are in one class exactly where their positive places are in one row
abbrev pub AreClassRows : (List ℕ → Type 0) → List (List ℕ) → Type 0
AreClassRows V rows = (x y : List ℕ) → V x → V y → IsSameClass V x y ↔ AreInOneRow rows x y
