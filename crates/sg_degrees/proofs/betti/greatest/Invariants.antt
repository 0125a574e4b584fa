use Rattle.std.proofs.Common.{◌≡◌, ℕ, ◌<◌, ◌≤◌}
use Rattle.std.specs.Prelude.{◌⊎◌, Contains, slice_index}
use Rattle.sg_degrees.proofs.betti.greatest.Given as goal

abbrev pub invariant-loop-value : goal.invariant-loop-value
invariant-loop-value l = record {
  bound : (j : ℕ) → j < l.value-index → slice_index l.values j ≤ l.greatest;
  reached : (l.greatest ≡ 0) ⊎ Contains l.values l.greatest;
}
