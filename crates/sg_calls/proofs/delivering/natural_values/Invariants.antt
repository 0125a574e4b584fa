use Rattle.std.proofs.Common.{◌≡◌, map, take, pos}
use Rattle.sg_value.specs.Data.{int}
use Rattle.sg_value.specs.Plain.{contents}
use Rattle.sg_calls.proofs.delivering.natural_values.Given as goal

-- the values so far are the first naturals
abbrev pub invariant-loop-n : goal.invariant-loop-n
invariant-loop-n l = map contents l.values.items ≡ map (λ n. int (pos n)) (take l.n-index l.ns)
