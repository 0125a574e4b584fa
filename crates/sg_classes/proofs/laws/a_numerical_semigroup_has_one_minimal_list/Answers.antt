use Rattle.sg_defs.specs.Membership.{IsMember}
use Rattle.sg_classes.proofs.OneListLemmas.{one-minimal_list}
use Rattle.sg_classes.proofs.laws.a_numerical_semigroup_has_one_minimal_list.Goals as goal

pub returns : goal.returns
returns c = λ G M N g h. one-minimal_list (IsMember G) M N g h
