-- Why a search ends without its answer.
use Rattle.sg_atoms.specs.declared.fault.SearchFault.{SearchFault}
use Rattle.sg_atoms.specs.declared.fault.SearchFault.TheVariants.{Budget, Memory}

-- the budget comes with P, and want of memory is free
abbrev pub IsSpent : Type 0 → SearchFault → Type 0
IsSpent P Budget = P
IsSpent P (Memory e) = Unit {0}
