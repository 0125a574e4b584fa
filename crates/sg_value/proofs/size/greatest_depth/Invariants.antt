use Rattle.std.proofs.Common.{◌≡◌, ◌≤◌, ◌-◌, ◌^◌, min, max, drop}
use Rattle.sg_value.specs.Data.{depth_of_all}
use Rattle.sg_value.specs.Plain.{contents_of_all}
use Rattle.sg_value.proofs.size.greatest_depth.Given as goal

-- with the entries to come, the greatest depth is that of all
abbrev pub invariant-loop-entry : goal.invariant-loop-entry
invariant-loop-entry l = record {
  fits : l.deepest ≤ 2 ^ 64 - 1;
  rest : min (max l.deepest (depth_of_all (contents_of_all (drop l.entry-index l.entries)))) (2 ^ 64 - 1) ≡ min (depth_of_all (contents_of_all l.fn.entries)) (2 ^ 64 - 1);
}
