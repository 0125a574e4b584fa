-- What a table keeps.
use Rattle.std.specs.Prelude.{◌≡◌, ℕ, ◌<◌, ◌≤◌, List, length, slice_index}
use Rattle.sg_defs.specs.Membership.{IsMember, IsNumericalSemigroup, IsMinimal}
use Rattle.sg_defs.specs.Apery.{IsApery}
use Rattle.sg_classes.specs.declared.limits.TheConstants.{APERY_ENTRY_LIMIT, MULTIPLICITY_LIMIT}
use Rattle.sg_classes.specs.Fit.{IsFit}

-- t is the Apery list of G modulo its length, which is a member of G
pub record IsAperyTable (G t : List ℕ) : Type 0 where
  pub semigroup : IsNumericalSemigroup G
  pub not_empty : 0 < length t
  pub modulus : IsMember G (length t)
  pub apery : IsApery G (length t) t

-- the same within the limits
pub record IsTable (G t : List ℕ) : Type 0 where
  pub semigroup : IsNumericalSemigroup G
  pub not_empty : 0 < length t
  pub short : length t ≤ MULTIPLICITY_LIMIT
  pub modulus : IsMember G (length t)
  pub apery : IsApery G (length t) t
  pub small : (i : ℕ) → i < length t → slice_index t i ≤ APERY_ENTRY_LIMIT

-- G is the minimal list, within the limits, and the modulus is the multiplicity
pub record IsMinimalTable (G t : List ℕ) : Type 0 where
  pub table : IsTable G t
  pub minimal : IsMinimal G
  pub fit : IsFit G
  pub multiplicity : length t ≡ slice_index G 0
