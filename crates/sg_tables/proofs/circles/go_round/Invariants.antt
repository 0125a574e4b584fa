use Rattle.std.proofs.Common.{◌≡◌, ◌%◌, ◌<◌, ◌≤◌, ℕ, List, length, get_or}
use Rattle.sg_defs.specs.Membership.{IsMember}
use Rattle.sg_tables.specs.Circles.{AreKnown, IsClosedAt}
use Rattle.sg_tables.proofs.circles.go_round.Given as goal

abbrev pub invariant-loop-start : goal.invariant-loop-start
invariant-loop-start l = record {
  long : length l.table ≡ length l.fn.table;
  circles : l.circles ≤ length l.table;
  known : (M : List ℕ) → IsMember M l.generator → AreKnown M l.fn.table → AreKnown M l.table;
  down : (i : ℕ) → i < length l.fn.table → get_or l.table i 0 ≤ get_or l.fn.table i 0;
  closed : (i : ℕ) → i < length l.fn.table → i % l.circles < l.start → IsClosedAt l.table l.generator i;
}
