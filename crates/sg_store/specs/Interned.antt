-- What ids stand for while a store grows.
use Rattle.std.specs.Prelude.{◌≡◌, ◌⊎◌, ℕ, List, [], ◌∷◌, ◌++◌, slice_get, Some}
use Rattle.sg_value.specs.Plain.{IsKept, RelativeIdeal}
use Rattle.sg_value.specs.Known.{Known, named}

-- each known id goes on to stand for the same thing
abbrev pub Keeps : Known → Known → Type 0
Keeps old new = IsKept (named old) (named new)

-- after this semigroup was put last
abbrev pub with_semigroup : Known → List ℕ → Known
with_semigroup known gens = record { semigroups = known.semigroups ++ gens ∷ []; ideals = known.ideals }

-- after this ideal was put last
abbrev pub with_ideal : Known → RelativeIdeal → Known
with_ideal known i = record { semigroups = known.semigroups; ideals = known.ideals ++ i ∷ [] }

-- a list got this id: its old one where it was known, and nothing else came in
pub record IsInterned (old new : Known) (gens : List ℕ) (id : ℕ) : Type 0 where
  pub stands : slice_get new.semigroups id ≡ Some gens
  pub known : (i : ℕ) → slice_get old.semigroups i ≡ Some gens → (id ≡ i) × (new ≡ old)
  pub only : (new ≡ old) ⊎ (new ≡ with_semigroup old gens)
  pub keeps : Keeps old new

-- the same of an ideal
pub record IsIdealInterned (old new : Known) (i : RelativeIdeal) (id : ℕ) : Type 0 where
  pub stands : slice_get new.ideals id ≡ Some i
  pub known : (j : ℕ) → slice_get old.ideals j ≡ Some i → (id ≡ j) × (new ≡ old)
  pub only : (new ≡ old) ⊎ (new ≡ with_ideal old i)
  pub keeps : Keeps old new
