-- What became of an ideal that a call made.
use Rattle.std.specs.Prelude.{◌≡◌, Result, Ok, Err, ⊤}
use Rattle.sg_defs.specs.Ideals.{RelativeIdeal}
use Rattle.sg_ideal.specs.declared.fault.IdealFault.{IdealFault}
use Rattle.sg_ideal.specs.declared.fault.IdealFault.TheVariants as made_of
use Rattle.sg_lawful.specs.Lawful.{IsLawfulIdeal}
use Rattle.sg_rows.specs.declared.fault.Fault.TheVariants.{BadArgument, TooLarge}
use Rattle.sg_rows.specs.declared.fault.CallFault.{CallFault}
use Rattle.sg_rows.specs.declared.fault.CallFault.TheVariants.{Script, Memory}
use Rattle.sg_rows.specs.declared.made.Made.{Made}
use Rattle.sg_rows.specs.declared.made.Made.TheVariants.{Ideal}

-- it is this ideal, which is lawful
abbrev pub IsIdealMade : RelativeIdeal → Made → Type 0
IsIdealMade J m = (m ≡ Ideal J.ambient J.generators) × IsLawfulIdeal J.ambient J.generators

-- memory ran out
abbrev pub IsWantOfMemory : CallFault → Type 0
IsWantOfMemory (Script e) = ⊥
IsWantOfMemory (Memory e) = ⊤

-- what was made is told, or its refusal is handed on
abbrev pub IsSettled : Result RelativeIdeal IdealFault → Result Made CallFault → Type 0
IsSettled (Ok J) (Ok m) = IsIdealMade J m
IsSettled (Ok J) (Err e) = IsWantOfMemory e
IsSettled (Err made_of.BadArgument) r = r ≡ Err (Script BadArgument)
IsSettled (Err made_of.TooLarge) r = r ≡ Err (Script TooLarge)
IsSettled (Err (made_of.Memory e)) r = r ≡ Err (Memory e)
