use Rattle.std.proofs.Common.{◌≡◌, ◌<◌, take}
use Rattle.sg_value.specs.declared.limits.TheConstants.{WEIGHT_LIMIT}
use Rattle.sg_rows.specs.Values.{weight_of_vectors}
use Rattle.sg_calls.proofs.delivering.weight_within.Given as goal

-- the weight so far is that of the first vectors, and is not too heavy
abbrev pub invariant-loop-vector : goal.invariant-loop-vector
invariant-loop-vector l = (l.weight ≡ weight_of_vectors (take l.vector-index l.vectors)) × (l.weight < WEIGHT_LIMIT)
