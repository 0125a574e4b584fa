use Rattle.sg_laws_ideals.proofs.IdealDecisions.{ideal_member-decided}
use Rattle.sg_laws_ideals.proofs.laws.ideal_membership_is_decided.Goals as goal

pub returns : goal.returns
returns c = ideal_member-decided
