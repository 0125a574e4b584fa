use Rattle.std.proofs.Common.{◌+◌, ◌≤◌}
use Rattle.sg_small.specs.Small.{HasGapBefore, IsRun}
use Rattle.sg_small.proofs.small.conductor_place.Given as goal

abbrev pub invariant-loop-place : goal.invariant-loop-place
invariant-loop-place l = record {
  before : l.start + 1 ≤ l.place;
  run : IsRun l.list l.start l.place;
  gap : HasGapBefore l.list l.start;
}
