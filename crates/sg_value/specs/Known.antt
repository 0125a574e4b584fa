-- What a store knows.
use Rattle.std.specs.Prelude.{ℕ, List, slice_get}
use Rattle.sg_value.specs.Data.{semigroups, ideals}
use Rattle.sg_value.specs.Plain.{Named, RelativeIdeal}

-- the things of each kind: that with the id i is entry i
pub record Known : Type 0 where
  pub semigroups : List (List ℕ)
  pub ideals : List RelativeIdeal

abbrev pub named : Known → Named
named known semigroups i = slice_get known.semigroups i
named known ideals i = slice_get known.ideals i
