-- Names that give every place the same, for the tests.
use Rattle.std.specs.Prelude.{ℕ, ℤ, List, Some}
use Rattle.sg_value.specs.Data.{semigroups, ideals}
use Rattle.sg_value.specs.Plain.{Named}

-- each place stands for this semigroup, or for the ideal of it with these generators
abbrev pub every_place : List ℕ → List ℤ → Named
every_place gens ideal semigroups i = Some gens
every_place gens ideal ideals i = Some (record { ambient = gens; generators = ideal })
