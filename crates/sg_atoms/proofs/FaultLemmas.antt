-- Why a search ends, under weaker conditions.
use Rattle.sg_atoms.specs.Faults.{IsSpent}
use Rattle.sg_atoms.specs.declared.fault.SearchFault.{SearchFault}
use Rattle.sg_atoms.specs.declared.fault.SearchFault.TheVariants.{Budget, Memory}

pub spent-weaker : {P Q : Type 0} → (P → Q) → (fault : SearchFault) → IsSpent P fault → IsSpent Q fault
spent-weaker f Budget h = f h
spent-weaker f (Memory e) h = tt
