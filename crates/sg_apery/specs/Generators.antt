-- When given generators are refused.
pub use Rattle.sg_classes.specs.Entries.{IsGreatest, IsDivisorOfAll, AreSmall, HasLarge}
use Rattle.std.specs.Prelude.{ℕ, ◌<◌, ◌≤◌, ◌⊎◌, List, length, slice_index, EachIndex}
use Rattle.sg_defs.specs.Membership.{IsNumericalSemigroup}
use Rattle.sg_classes.specs.declared.limits.TheConstants.{MULTIPLICITY_LIMIT}
use Rattle.sg_apery.specs.declared.fault.TableFault.{TableFault}
use Rattle.sg_apery.specs.declared.fault.TableFault.TheVariants.{BadArgument, TooLarge, Memory}

-- what accepted generators are
pub record AreAccepted (given : List ℕ) : Type 0 where
  pub small : AreSmall given
  pub semigroup : IsNumericalSemigroup given
  pub least : (k : ℕ) × (k < length given) × (slice_index given k ≤ MULTIPLICITY_LIMIT)

-- when each refusal comes: an entry past the limit, then a list that is no semigroup's, then a multiplicity past the limit
abbrev pub AreRefused : List ℕ → TableFault → Type 0
AreRefused given BadArgument = AreSmall given × (IsNumericalSemigroup given → ⊥)
AreRefused given TooLarge = HasLarge given
    ⊎ (AreSmall given × IsNumericalSemigroup given × EachIndex given (λ k. MULTIPLICITY_LIMIT < slice_index given k))
AreRefused given (Memory e) = Unit {0}
