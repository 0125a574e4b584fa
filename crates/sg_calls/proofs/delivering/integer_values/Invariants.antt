use Rattle.std.proofs.Common.{◌≡◌, map, take}
use Rattle.sg_value.specs.Data.{int}
use Rattle.sg_value.specs.Plain.{contents}
use Rattle.sg_calls.proofs.delivering.integer_values.Given as goal

-- the values so far are the first integers
abbrev pub invariant-loop-z : goal.invariant-loop-z
invariant-loop-z l = map contents l.values.items ≡ map int (take l.z-index l.zs)
