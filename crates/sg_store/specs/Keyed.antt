-- Ideals by the ids of their semigroups.
use Rattle.std.specs.Prelude.{◌≡◌, ℕ, ℤ, List, Some, slice_get}
use Rattle.sg_value.specs.Data.{ideals}
use Rattle.sg_value.specs.Plain.{RelativeIdeal, thing_at}
use Rattle.sg_value.specs.Known.{Known, named}
use Rattle.sg_store.specs.Fit.{IsLawfulRelative}
use Rattle.sg_store.specs.Held.{list_at}
use Rattle.sg_store.specs.declared.key.IdealKey.{IdealKey}

-- the ideal with these generators, of the semigroup with this id
abbrev pub ideal_over : Known → ℕ → List ℤ → RelativeIdeal
ideal_over known ambient gens = record { ambient = list_at known.semigroups ambient; generators = gens }

-- the key has the id of the semigroup of the ideal at an id, and its generators, and the ideal is fit
pub record IsKeyOf (known : Known) (id : ℕ) (k : IdealKey) : Type 0 where
  pub ambient : slice_get known.semigroups k.ambient ≡ Some (thing_at (named known) ideals id).ambient
  pub generators : k.list ≡ (thing_at (named known) ideals id).generators
  pub fit : IsLawfulRelative (thing_at (named known) ideals id)
