use Rattle.std.proofs.Common.{◌+◌, sum}
use Rattle.std.specs.BinaryHeap.{heap_len}
use Rattle.sg_tables.specs.Found.{AreFound}
use Rattle.sg_tables.proofs.visits.visit_all.Given as goal

abbrev pub invariant-visits : goal.invariant-visits
invariant-visits l = AreFound l.generators l.table l.summands

abbrev pub decreases-visits : goal.decreases-visits
decreases-visits l = sum l.table + heap_len l.waiting
