-- Why factorizations are not listed.
use Rattle.sg_factor.specs.declared.fault.FactorFault.{FactorFault}
use Rattle.sg_factor.specs.declared.fault.FactorFault.TheVariants.{TooMany, Memory}

-- too many exactly comes with P, and want of memory is free
abbrev pub IsRefused : Type 0 → FactorFault → Type 0
IsRefused P TooMany = P
IsRefused P (Memory e) = Unit {0}
