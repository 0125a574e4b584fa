use Rattle.std.proofs.Common.{◌≡◌, ℕ, ◌<◌, length, slice_index}
use Rattle.sg_tables.specs.Sums.{IsBelowSumsAt}
use Rattle.sg_tables.proofs.sums.pair_sums.Given as goal

-- the sums of the classes so far
abbrev pub invariant-loop-class : goal.invariant-loop-class
invariant-loop-class l = record {
  long : length l.sums.items ≡ l.class;
  below : (c : ℕ) → c < l.class → IsBelowSumsAt l.least c (slice_index l.sums.items c);
}
