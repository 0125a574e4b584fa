use Rattle.std.proofs.Common.{◌≡◌, ◌+◌, ◌*◌, ◌%◌, ℕ, List, length, sum}
use Rattle.sg_defs.specs.Membership.{IsMember}
use Rattle.sg_tables.specs.Circles.{AreKnown, IsFollowedBut, IsLoweredOn}
use Rattle.sg_tables.proofs.circles.steps_on.Given as goal

abbrev pub invariant-loop-at : goal.invariant-loop-at
invariant-loop-at l = record {
  long : length l.table ≡ length l.fn.table;
  at : (j : ℕ) × (l.at ≡ (l.start + j * l.generator) % length l.table);
  next : l.next ≡ (l.at + l.generator) % length l.table;
  known : (M : List ℕ) → IsMember M l.generator → AreKnown M l.fn.table → AreKnown M l.table;
  lowered : IsLoweredOn l.generator l.start l.fn.table l.table;
  followed : IsFollowedBut l.table l.generator l.start l.steps l.at;
}

abbrev pub decreases-loop-at : goal.decreases-loop-at
decreases-loop-at l = sum l.table
