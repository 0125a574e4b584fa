use Rattle.std.proofs.Common.{ℕ, ◌<◌, ◌≤◌, length}
use Rattle.std.specs.Prelude.{slice_index}
use Rattle.sg_factor.proofs.catenary.least_place.Given as goal

abbrev pub invariant-loop-place : goal.invariant-loop-place
invariant-loop-place l = record {
  inside : l.least < length l.near;
  least : (j : ℕ) → j < l.place → slice_index l.near l.least ≤ slice_index l.near j;
}
