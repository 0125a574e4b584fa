use Rattle.std.proofs.Common.{◌+ℤ◌}
use Rattle.sg_defs.specs.Membership.{IsIntegerMember}
use Rattle.sg_invar.proofs.SelectionLemmas.{SelectsFront}
use Rattle.sg_invar.proofs.pseudo.special_gaps.Given as goal

abbrev pub invariant-loop-x : goal.invariant-loop-x
invariant-loop-x l = SelectsFront (λ x. IsIntegerMember l.table (x +ℤ x)) l.pf l.x-index l.special
