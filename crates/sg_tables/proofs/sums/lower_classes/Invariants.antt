use Rattle.std.proofs.Common.{◌≡◌, ℕ, ◌<◌, false, true, sum, slice_index}
use Rattle.sg_tables.specs.Sums.{IsBelowSumsAt, IsLowered}
use Rattle.sg_tables.proofs.sums.lower_classes.Given as goal

-- what was lowered so far
abbrev pub invariant-loop-class : goal.invariant-loop-class
invariant-loop-class l = record {
  lowered : IsLowered l.fn.least l.least;
  lower : l.lowered ≡ true → sum l.least < sum l.fn.least;
  same : l.lowered ≡ false → l.least ≡ l.fn.least;
  settled : l.lowered ≡ false → (c : ℕ) → c < l.class → IsBelowSumsAt l.least c (slice_index l.least c);
}
