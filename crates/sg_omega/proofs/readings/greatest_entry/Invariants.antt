use Rattle.std.proofs.Common.{take}
use Rattle.sg_omega.proofs.ReadingLemmas.{IsGreatestOver, IsReadAt}
use Rattle.sg_omega.proofs.readings.greatest_entry.Given as goal

abbrev pub invariant-loop-v : goal.invariant-loop-v
invariant-loop-v l = IsGreatestOver (IsReadAt l.table l.wanted) (take l.v-index l.values) l.greatest
