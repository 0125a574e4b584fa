use Rattle.std.proofs.Common.{◌≡◌, ◌<◌, take}
use Rattle.sg_value.specs.declared.limits.TheConstants.{WEIGHT_LIMIT}
use Rattle.sg_rows.specs.Values.{weight_of_lists}
use Rattle.sg_calls.proofs.delivering.are_heavy.Given as goal

-- the weight so far is that of the first lists, and is not too heavy
abbrev pub invariant-loop-vectors : goal.invariant-loop-vectors
invariant-loop-vectors l = (l.weight ≡ weight_of_lists (take l.vectors-index l.lists)) × (l.weight < WEIGHT_LIMIT)
