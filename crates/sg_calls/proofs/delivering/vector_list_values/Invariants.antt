use Rattle.std.proofs.Common.{◌≡◌, map, take}
use Rattle.sg_value.specs.Plain.{contents}
use Rattle.sg_rows.specs.Values.{vector_list}
use Rattle.sg_calls.proofs.delivering.vector_list_values.Given as goal

-- the values so far are the first lists
abbrev pub invariant-loop-vectors : goal.invariant-loop-vectors
invariant-loop-vectors l = map contents l.values.items ≡ map vector_list (take l.vectors-index l.lists)
