use Rattle.sg_defs.proofs.DecidedLemmas.{member-decided}
use Rattle.sg_laws_invariants.proofs.laws.membership_is_decided.Goals as goal

pub returns : goal.returns
returns c = member-decided
