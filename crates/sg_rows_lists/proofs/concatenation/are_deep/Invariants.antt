use Rattle.std.proofs.Common.{◌↔◌, ◌<◌, drop}
use Rattle.sg_value.specs.declared.limits.TheConstants.{NESTING_LIMIT}
use Rattle.sg_value.specs.Data.{depth_of_all}
use Rattle.sg_value.specs.Plain.{contents_of_all}
use Rattle.sg_rows_lists.proofs.concatenation.are_deep.Given as goal

-- some value nests too deep where one to come does
abbrev pub invariant-loop-value : goal.invariant-loop-value
invariant-loop-value l = (NESTING_LIMIT < depth_of_all (contents_of_all (drop l.value-index l.values))) ↔ (NESTING_LIMIT < depth_of_all (contents_of_all l.values))
