-- Sets written out as a list of different items.
use Rattle.std.specs.Prelude.{◌≢◌, List, Contains, AllPairs, ◌↔◌}

-- the list holds exactly the items with P, each once
pub record IsListing {X : Type 0} (P : X → Type 0) (l : List X) : Type 0 where
  pub different : AllPairs (λ x y. x ≢ y) l
  pub exactly : (x : X) → Contains l x ↔ P x
