use Rattle.std.proofs.Common.{◌↔◌, IsSome, drop}
use Rattle.sg_value.specs.Plain.{contents_of_all}
use Rattle.sg_rows_lists.specs.Concatenations.{concatenated}
use Rattle.sg_rows_lists.proofs.concatenation.are_lists.Given as goal

-- all are lists where those to come are
abbrev pub invariant-loop-value : goal.invariant-loop-value
invariant-loop-value l = IsSome (concatenated (contents_of_all (drop l.value-index l.values))) ↔ IsSome (concatenated (contents_of_all l.values))
