-- What became of what a constructor made.
use Rattle.std.specs.Prelude.{◌≡◌, ℕ, List, Result, Ok, Err, ⊤}
use Rattle.sg_apery.specs.declared.fault.TableFault.{TableFault}
use Rattle.sg_apery.specs.declared.fault.TableFault.TheVariants as table
use Rattle.sg_lawful.specs.Lawful.{IsLawfulList}
use Rattle.sg_rows.specs.declared.fault.Fault.TheVariants.{BadArgument, TooLarge}
use Rattle.sg_rows.specs.declared.fault.CallFault.{CallFault}
use Rattle.sg_rows.specs.declared.fault.CallFault.TheVariants.{Script, Memory}
use Rattle.sg_rows.specs.declared.made.Made.{Made}
use Rattle.sg_rows.specs.declared.made.Made.TheVariants.{Semigroup}

-- memory ran out
abbrev pub IsMemory : CallFault → Type 0
IsMemory (Script e) = ⊥
IsMemory (Memory e) = ⊤

-- it is this semigroup, which is lawful
abbrev pub IsSemigroupOf : List ℕ → Made → Type 0
IsSemigroupOf G m = (m ≡ Semigroup G) × IsLawfulList G

-- what was made is told, or its refusal is handed on
abbrev pub IsSettled : Result (List ℕ) TableFault → Result Made CallFault → Type 0
IsSettled (Ok G) (Ok m) = IsSemigroupOf G m
IsSettled (Ok G) (Err e) = IsMemory e
IsSettled (Err table.BadArgument) r = r ≡ Err (Script BadArgument)
IsSettled (Err table.TooLarge) r = r ≡ Err (Script TooLarge)
IsSettled (Err (table.Memory e)) r = r ≡ Err (Memory e)
