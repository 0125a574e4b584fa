-- Semigroups and ideals that a script can make, by their minimal lists.
use Rattle.std.specs.Prelude.{ℕ, ℤ, ◌<◌, List, length}
use Rattle.sg_defs.specs.Membership.{IsNumericalSemigroup, IsMinimal}
use Rattle.sg_defs.specs.Ideals.{IsMinimalIdeal}
use Rattle.sg_classes.specs.Fit.{IsFit}
use Rattle.sg_lawful.specs.Generators.{AreSmall}

-- the minimal list of a numerical semigroup that is within the limits
pub record IsLawfulList (G : List ℕ) : Type 0 where
  pub semigroup : IsNumericalSemigroup G
  pub minimal : IsMinimal G
  pub fit : IsFit G

-- the minimal list of an ideal of such a semigroup, whose generators are within the limit
pub record IsLawfulIdeal (G : List ℕ) (I : List ℤ) : Type 0 where
  pub ambient : IsLawfulList G
  pub not_empty : 0 < length I
  pub minimal : IsMinimalIdeal G I
  pub small : AreSmall I
