use Rattle.std.proofs.Common.{◌-◌, ◌≤◌, length}
use Rattle.sg_tables.proofs.StepLemmas.{AreTopsUpTo}
use Rattle.sg_tables.proofs.steps.tops_of.Given as goal

abbrev pub invariant-loop-generator : goal.invariant-loop-generator
invariant-loop-generator l = record {
  next : l.next ≤ length l.generators;
  tops : AreTopsUpTo l.generators l.step l.tops.items l.generator-index;
}

abbrev pub invariant-loop-next : goal.invariant-loop-next
invariant-loop-next l = l.next ≤ length l.generators

abbrev pub decreases-loop-next : goal.decreases-loop-next
decreases-loop-next l = length l.generators - l.next
