use Rattle.std.proofs.Common.{◌≡◌, ℕ, ◌<◌, length, slice_index}
use Rattle.sg_closure.specs.Differences.{IsDifference}
use Rattle.sg_closure.proofs.med.difference_list.Given as goal

abbrev pub invariant-loop-generator : goal.invariant-loop-generator
invariant-loop-generator l = record {
  long : length l.list.items ≡ l.generator-index;
  entries : (k : ℕ) → k < l.generator-index → IsDifference (slice_index l.generators 0) (slice_index l.generators k) (slice_index l.list.items k);
}
