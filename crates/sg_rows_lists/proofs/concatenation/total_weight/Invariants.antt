use Rattle.std.proofs.Common.{◌≡◌, ◌≤◌, ◌+◌, ◌-◌, ◌^◌, min, drop}
use Rattle.sg_value.specs.Data.{weight_of_all}
use Rattle.sg_value.specs.Plain.{contents_of_all}
use Rattle.sg_rows_lists.proofs.concatenation.total_weight.Given as goal

-- with the values to come, the sum is that of all
abbrev pub invariant-loop-value : goal.invariant-loop-value
invariant-loop-value l = record {
  fits : l.total ≤ 2 ^ 64 - 1;
  rest : min (l.total + weight_of_all (contents_of_all (drop l.value-index l.values))) (2 ^ 64 - 1) ≡ min (weight_of_all (contents_of_all l.values)) (2 ^ 64 - 1);
}
