use Rattle.std.proofs.Common.{◌≡◌, ℕ, ◌<◌, false, true, sum}
use Rattle.sg_tables.specs.Found.{AreFound, IsMarkedMore, IsSettled}
use Rattle.sg_tables.proofs.closing.close_round.Given as goal

-- what the classes so far did to the table
abbrev pub invariant-loop-class : goal.invariant-loop-class
invariant-loop-class l = record {
  found : AreFound l.generators l.table l.summands;
  more : IsMarkedMore l.fn.summands l.summands;
  lower : l.lowered ≡ true → sum l.table < sum l.fn.table;
  same : l.lowered ≡ false → l.table ≡ l.fn.table;
  settled : l.lowered ≡ false → (i : ℕ) → 0 < i → i < l.class → IsSettled l.generators l.table l.summands l.bound i;
}
