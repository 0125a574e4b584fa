-- When fundamental gaps are refused.
pub use Rattle.sg_small.specs.Fundamental.{DividesAnEntry, DividesNone, AreWithin, HasPast, IsMarked, HasMarkedMultiple, IsDivisor}
use Rattle.std.specs.Prelude.{ℕ, ◌⊎◌, List}
use Rattle.sg_defs.specs.Membership.{Generates}
use Rattle.sg_classes.specs.Fit.{IsTooLarge}
use Rattle.sg_apery.specs.declared.fault.TableFault.{TableFault}
use Rattle.sg_apery.specs.declared.fault.TableFault.TheVariants.{BadArgument, TooLarge, Memory}

-- an entry past the limit; then naturals that are no numerical semigroup; then one past the limits
abbrev pub AreFundamentalRefused : List ℕ → TableFault → Type 0
AreFundamentalRefused list BadArgument = AreWithin list × ((M : List ℕ) → Generates (DividesNone list) M → ⊥)
AreFundamentalRefused list TooLarge = HasPast list ⊎ (AreWithin list × IsTooLarge (DividesNone list))
AreFundamentalRefused list (Memory e) = Unit {0}
