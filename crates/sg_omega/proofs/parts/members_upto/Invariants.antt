use Rattle.sg_defs.specs.Membership.{IsMember}
use Rattle.sg_classes.proofs.ListingLemmas.{ListsBelow}
use Rattle.sg_omega.proofs.parts.members_upto.Given as goal

abbrev pub invariant-loop-v : goal.invariant-loop-v
invariant-loop-v l = ListsBelow (IsMember l.t) l.v l.members.items
