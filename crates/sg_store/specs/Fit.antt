-- Ideals that a store takes, and semigroups whose tame degree it makes.
use Rattle.std.specs.Prelude.{ℕ, List}
use Rattle.sg_classes.specs.Fit.{IsNarrow}
use Rattle.sg_lawful.specs.Lawful.{IsLawfulIdeal, IsLawfulList}
use Rattle.sg_tame.specs.Answers.{IsWithinLimit}
use Rattle.sg_value.specs.Plain.{RelativeIdeal}

-- an ideal that a script can make, by its two minimal lists
abbrev pub IsLawfulRelative : RelativeIdeal → Type 0
IsLawfulRelative i = IsLawfulIdeal i.ambient i.generators

-- a semigroup that a script can make, and within the limits of the tame degree
pub record IsTameable (G : List ℕ) : Type 0 where
  pub lawful : IsLawfulList G
  pub narrow : IsNarrow G
  pub within : IsWithinLimit G
