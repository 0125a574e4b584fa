-- The lines of refused statements.
use Rattle.std.specs.Prelude.{ℕ, List, ◌++◌, codes, decimal}
use Rattle.sg_rows.specs.declared.fault.Fault.{Fault}
use Rattle.sg_rows.specs.declared.fault.Fault.TheVariants as fault

-- the name of a fault, as it is printed
abbrev pub name_of : Fault → List ℕ
name_of fault.Syntax = codes "Syntax"
name_of fault.TooLong = codes "TooLong"
name_of fault.UnknownName = codes "UnknownName"
name_of fault.WrongType = codes "WrongType"
name_of fault.WrongCount = codes "WrongCount"
name_of fault.Overflow = codes "Overflow"
name_of fault.BadArgument = codes "BadArgument"
name_of fault.TooLarge = codes "TooLarge"
name_of fault.TooMany = codes "TooMany"
name_of fault.IndexOut = codes "IndexOut"
name_of fault.Budget = codes "Budget"
name_of fault.Depth = codes "Depth"

-- what is written of a statement that is refused with this fault, in this line
abbrev pub fault_line : Fault → ℕ → List ℕ
fault_line fault line = codes "sgps: line " ++ (decimal line ++ (codes ": " ++ (name_of fault ++ codes "\n")))
