use Rattle.std.proofs.Common.{◌≡◌, ℕ, List, ◌+◌, ◌<◌, ◌≤◌, false, true, length, sum, slice_index}
use Rattle.std.specs.Prelude.{Contains}
use Rattle.std.specs.BinaryHeap.{heap_len}
use Rattle.sg_tables.specs.Found.{AreFound, IsMarkedMore, IsTold}
use Rattle.sg_tables.proofs.leads.lead_between.Given as goal

-- what the generators so far did to the table
abbrev pub invariant-loop-which : goal.invariant-loop-which
invariant-loop-which l = record {
  found : (G : List ℕ) → ((k : ℕ) → k < length l.list → Contains G (slice_index l.list k)) → AreFound G l.fn.table l.fn.summands → AreFound G l.table l.summands;
  more : IsMarkedMore l.fn.summands l.summands;
  less : sum l.table + heap_len l.waiting ≤ sum l.fn.table + heap_len l.fn.waiting;
  lower : l.lowered ≡ true → sum l.table < sum l.fn.table;
  same : l.lowered ≡ false → l.table ≡ l.fn.table;
  told : l.lowered ≡ false → (k : ℕ) → l.low ≤ k → k < l.which → IsTold l.table l.summands (slice_index l.list k) l.from;
}
