use Rattle.sg_defs.specs.Invariants.{IsGap}
use Rattle.sg_invar.proofs.ListingLemmas.{ListsBelow}
use Rattle.sg_invar.proofs.gap_lists.gaps.Given as goal

abbrev pub invariant-loop-n : goal.invariant-loop-n
invariant-loop-n l = ListsBelow (IsGap l.table) l.n l.gaps
