use Rattle.std.proofs.Common.{◌≡◌, ◌%◌, ◌≤◌, slice_index}
use Rattle.sg_defs.specs.Decomposition.{IsInCover}
use Rattle.sg_irred.proofs.cover_of.least_in_cover.Given as goal

abbrev pub invariant-loop-least : goal.invariant-loop-least
invariant-loop-least l = record {
  covered : IsInCover l.table l.h l.least;
  residue : l.least % slice_index l.table 0 ≡ l.from % slice_index l.table 0;
  small : l.least ≤ l.from;
}

abbrev pub decreases-loop-least : goal.decreases-loop-least
decreases-loop-least l = l.least
