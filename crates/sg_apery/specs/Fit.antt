-- The fault of a semigroup that is past the limits.
pub use Rattle.sg_classes.specs.Fit.{IsFit, IsPastLimits, IsTooLarge, IsSpan, IsNarrow}
use Rattle.std.specs.Prelude.{ℕ}
use Rattle.sg_apery.specs.declared.fault.TableFault.{TableFault}
use Rattle.sg_apery.specs.declared.fault.TableFault.TheVariants.{BadArgument, TooLarge, Memory}

-- the one fault of what is a numerical semigroup in any case
abbrev pub IsSizeFault : (ℕ → Type 0) → TableFault → Type 0
IsSizeFault P BadArgument = ⊥
IsSizeFault P TooLarge = IsTooLarge P
IsSizeFault P (Memory e) = Unit {0}
