use Rattle.std.proofs.Common.{◌≡◌, ◌≤◌, ◌+◌, ◌-◌, ◌^◌, min, drop}
use Rattle.sg_value.specs.Data.{weight_of_all}
use Rattle.sg_value.specs.Plain.{contents_of_all}
use Rattle.sg_value.proofs.size.total_weight.Given as goal

-- with the entries to come, the sum is that of all
abbrev pub invariant-loop-entry : goal.invariant-loop-entry
invariant-loop-entry l = record {
  fits : l.total ≤ 2 ^ 64 - 1;
  rest : min (l.total + weight_of_all (contents_of_all (drop l.entry-index l.entries))) (2 ^ 64 - 1) ≡ min (weight_of_all (contents_of_all l.fn.entries)) (2 ^ 64 - 1);
}
