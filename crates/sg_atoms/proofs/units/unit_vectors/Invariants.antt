use Rattle.std.proofs.Common.{◌≤◌, [], length}
use Rattle.sg_atoms.specs.Growth.{Gathers, IsUnitBefore}
use Rattle.sg_atoms.proofs.units.unit_vectors.Given as goal

abbrev pub invariant-loop-place : goal.invariant-loop-place
invariant-loop-place l = record {
  units : Gathers (IsUnitBefore l.places l.place) [] l.level;
  within : length l.level ≤ l.room;
}
