use Rattle.std.proofs.Common.{◌≤◌, length}
use Rattle.sg_atoms.specs.Growth.{Gathers, IsGrowthBefore}
use Rattle.sg_atoms.proofs.search.grow.Given as goal

abbrev pub invariant-loop-place : goal.invariant-loop-place
invariant-loop-place l = record {
  grown : Gathers (IsGrowthBefore l.equations l.atoms l.vector l.place) l.fn.next l.next;
  within : length l.next ≤ l.room;
}
