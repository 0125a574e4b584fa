use Rattle.std.proofs.Common.{◌≡◌, map, take}
use Rattle.sg_value.specs.Plain.{contents}
use Rattle.sg_rows.specs.Values.{natural_list}
use Rattle.sg_calls.proofs.delivering.vector_values.Given as goal

-- the values so far are the first vectors
abbrev pub invariant-loop-vector : goal.invariant-loop-vector
invariant-loop-vector l = map contents l.values.items ≡ map natural_list (take l.vector-index l.vectors)
