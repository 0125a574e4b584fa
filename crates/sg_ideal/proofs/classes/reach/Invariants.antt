use Rattle.std.proofs.Common.{◌-◌, ◌≤◌}
use Rattle.sg_ideal.specs.Classes.{IsReach}
use Rattle.sg_ideal.proofs.classes.reach.Given as goal

abbrev pub invariant-loop-reached : goal.invariant-loop-reached
invariant-loop-reached l = record {
  near : l.reached ≤ l.count;
  reach : IsReach l.entries l.by l.reached l.list.items;
}

abbrev pub decreases-loop-reached : goal.decreases-loop-reached
decreases-loop-reached l = l.count - l.reached
