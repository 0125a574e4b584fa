use Rattle.sg_defs.specs.Ideals.{IsIdealMember}
use Rattle.sg_laws_ideals.proofs.OneIdeal.{one-minimal_ideal}
use Rattle.sg_laws_ideals.proofs.laws.an_ideal_has_one_minimal_list.Goals as goal

pub returns : goal.returns
returns c G zs I J g h = one-minimal_ideal G (IsIdealMember G zs) I J g h
