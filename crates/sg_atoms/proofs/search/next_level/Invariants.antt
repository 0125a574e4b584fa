use Rattle.std.proofs.Common.{◌≤◌, ◌↔◌, ℕ, List, length, take}
use Rattle.std.specs.Prelude.{Contains}
use Rattle.sg_atoms.specs.Growth.{IsGrowthOf}
use Rattle.sg_atoms.proofs.search.next_level.Given as goal

abbrev pub invariant-loop-vector : goal.invariant-loop-vector
invariant-loop-vector l = record {
  grown : (q : List ℕ) → Contains l.next q ↔ IsGrowthOf l.equations l.atoms (take l.vector-index l.level) q;
  within : length l.next ≤ l.room;
}
