use Rattle.std.proofs.Common.{◌≡◌, ◌+◌, ◌*◌, ◌%◌, ℕ, List, length}
use Rattle.sg_defs.specs.Membership.{IsMember}
use Rattle.sg_tables.specs.Circles.{AreKnown, IsFollowedBut, IsLoweredOn}
use Rattle.sg_tables.proofs.circles.first_steps.Given as goal

abbrev pub invariant-loop : goal.invariant-loop
invariant-loop l = record {
  long : length l.table ≡ length l.fn.table;
  at : l.at ≡ (l.start + l.counter * l.generator) % length l.table;
  known : (M : List ℕ) → IsMember M l.generator → AreKnown M l.fn.table → AreKnown M l.table;
  lowered : IsLoweredOn l.generator l.start l.fn.table l.table;
  followed : IsFollowedBut l.table l.generator l.start l.counter l.at;
}
