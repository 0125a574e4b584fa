use Rattle.sg_defs.specs.Invariants.{IsFundamentalGap}
use Rattle.sg_invar.proofs.ListingLemmas.{ListsBelow}
use Rattle.sg_invar.proofs.gap_lists.fundamental_gaps.Given as goal

abbrev pub invariant-loop-n : goal.invariant-loop-n
invariant-loop-n l = ListsBelow (IsFundamentalGap l.table) l.n l.fundamental
