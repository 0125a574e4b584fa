-- When a call gives no ideal.
use Rattle.std.specs.Prelude.{◌≡◌, ◌≢◌, ℕ, ℤ, List, []}
use Rattle.sg_ideal.specs.declared.fault.IdealFault.{IdealFault}
use Rattle.sg_ideal.specs.declared.fault.IdealFault.TheVariants.{BadArgument, TooLarge, Memory}
use Rattle.sg_ideal.specs.Value.{HasLargeGenerator}
use Rattle.sg_defs.specs.Ideals.{RelativeIdeal}
use Rattle.sg_lawful.specs.Generators.{AreSmall, HasLarge}

-- an entry is past the limit; then there is none
abbrev pub AreRefused : List ℤ → IdealFault → Type 0
AreRefused given BadArgument = AreSmall given × (given ≡ [])
AreRefused given TooLarge = HasLarge given
AreRefused given (Memory e) = Unit {0}

-- a minimal generator of the ideal of the integers with P is past the limit
abbrev pub IsSizeFault : List ℕ → (ℤ → Type 0) → IdealFault → Type 0
IsSizeFault G P BadArgument = ⊥
IsSizeFault G P TooLarge = HasLargeGenerator G P
IsSizeFault G P (Memory e) = Unit {0}

-- the same of generators that are made of a list
abbrev pub IsListFault : List ℤ → IdealFault → Type 0
IsListFault I BadArgument = ⊥
IsListFault I TooLarge = HasLarge I
IsListFault I (Memory e) = Unit {0}

-- the ambients differ; or they are one, and a minimal generator of what the integers with P form is past the limit
abbrev pub IsPairRefused : RelativeIdeal → RelativeIdeal → (ℤ → Type 0) → IdealFault → Type 0
IsPairRefused I J P BadArgument = I.ambient ≢ J.ambient
IsPairRefused I J P TooLarge = (I.ambient ≡ J.ambient) × HasLargeGenerator I.ambient P
IsPairRefused I J P (Memory e) = Unit {0}

-- no multiple by 0; or a minimal generator is past the limit
abbrev pub IsMultipleRefused : ℕ → List ℕ → (ℤ → Type 0) → IdealFault → Type 0
IsMultipleRefused k G P BadArgument = k ≡ 0
IsMultipleRefused k G P TooLarge = (k ≢ 0) × HasLargeGenerator G P
IsMultipleRefused k G P (Memory e) = Unit {0}

-- no more than memory was wanting
abbrev pub IsMemory : IdealFault → Type 0
IsMemory BadArgument = ⊥
IsMemory TooLarge = ⊥
IsMemory (Memory e) = Unit {0}
