-- The faults of scripts.
use Rattle.std.specs.Prelude.{ℕ}
use Rattle.sg_rows.specs.declared.fault.Fault.{Fault}
use Rattle.sg_rows.specs.declared.fault.Fault.TheVariants.{Syntax, TooLong, UnknownName, WrongType, WrongCount, Overflow, BadArgument, TooLarge, TooMany, IndexOut, Budget, Depth}

-- the place of the fault in the list of all
abbrev pub fault_number : Fault → ℕ
fault_number Syntax = 1
fault_number TooLong = 2
fault_number UnknownName = 3
fault_number WrongType = 4
fault_number WrongCount = 5
fault_number Overflow = 6
fault_number BadArgument = 7
fault_number TooLarge = 8
fault_number TooMany = 9
fault_number IndexOut = 10
fault_number Budget = 11
fault_number Depth = 12
