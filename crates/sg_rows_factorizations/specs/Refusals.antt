-- Why factorizations are not listed, as the refusal of a row.
use Rattle.sg_factor.specs.declared.fault.FactorFault.{FactorFault}
use Rattle.sg_factor.specs.declared.fault.FactorFault.TheVariants as factor
use Rattle.sg_rows.specs.declared.fault.Fault.TheVariants.{TooMany}
use Rattle.sg_rows.specs.declared.fault.CallFault.{CallFault}
use Rattle.sg_rows.specs.declared.fault.CallFault.TheVariants.{Script, Memory}

-- too many are the fault of that name, and want of memory is handed on
abbrev pub refusal_of : FactorFault → CallFault
refusal_of factor.TooMany = Script TooMany
refusal_of (factor.Memory e) = Memory e
