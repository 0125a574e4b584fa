use Rattle.std.proofs.Common.{◌≡◌, ℕ, ◌<◌, true, false, sum}
use Rattle.sg_factor.specs.Bounds.{AreLowered, IsClosedAt}
use Rattle.sg_factor.proofs.bounds.lower_along.Given as goal

abbrev pub invariant-loop-from : goal.invariant-loop-from
invariant-loop-from l = record {
  changed : AreLowered l.fn.table l.table;
  less : l.lowered ≡ true → sum l.table < sum l.fn.table;
  same : l.lowered ≡ false → l.table ≡ l.fn.table;
  closed : l.lowered ≡ false → (i : ℕ) → i < l.from → IsClosedAt l.table l.generator i;
}
