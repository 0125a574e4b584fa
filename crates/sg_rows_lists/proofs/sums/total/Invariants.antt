use Rattle.std.proofs.Common.{◌≡◌, ◌*◌, ◌^◌, drop, pos, ◌+ℤ◌, neg_ℤ, ◌≤ℤ◌}
use Rattle.sg_rows_lists.specs.Integers.{total}
use Rattle.sg_rows_lists.proofs.sums.total.Given as goal

-- with the entries to come, the sum is that of all; it is small
abbrev pub invariant-loop-z : goal.invariant-loop-z
invariant-loop-z l = record {
  rest : (l.sum +ℤ total (drop l.z-index l.zs)) ≡ total l.zs;
  low : neg_ℤ (pos (2 ^ 63 * l.z-index)) ≤ℤ l.sum;
  high : l.sum ≤ℤ pos (2 ^ 63 * l.z-index);
}
