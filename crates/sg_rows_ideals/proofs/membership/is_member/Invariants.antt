use Rattle.sg_rows_ideals.proofs.Reaching.{IsMissedBy}
use Rattle.sg_rows_ideals.proofs.membership.is_member.Given as goal

abbrev pub invariant-loop-generator : goal.invariant-loop-generator
invariant-loop-generator l = IsMissedBy l.table l.generators l.x l.generator-index
