use Rattle.sg_defs.specs.Membership.{IsMember}
use Rattle.sg_invar.proofs.ListingLemmas.{ListsBelow}
use Rattle.sg_invar.proofs.gap_lists.small_elements.Given as goal

abbrev pub invariant-loop-n : goal.invariant-loop-n
invariant-loop-n l = ListsBelow (IsMember l.table) l.n l.members
