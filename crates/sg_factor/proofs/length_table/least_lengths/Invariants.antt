use Rattle.std.proofs.Common.{◌≡◌, ℕ, ◌<◌, length}
use Rattle.std.specs.Prelude.{slice_index}
use Rattle.sg_factor.specs.LengthTables.{IsLeastLength}
use Rattle.sg_factor.proofs.length_table.least_lengths.Given as goal

abbrev pub invariant-loop-count : goal.invariant-loop-count
invariant-loop-count l = record {
  entries : length l.least ≡ l.count-index;
  each : (n : ℕ) → n < l.count-index → IsLeastLength l.t n (slice_index l.least n);
}
