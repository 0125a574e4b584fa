use Rattle.sg_defs.specs.Membership.{IsMember}
use Rattle.sg_laws_invariants.proofs.BoundLemmas.{numerical-set, minimal_list-exists}
use Rattle.sg_laws_invariants.proofs.laws.a_numerical_semigroup_has_a_minimal_list.Goals as goal

pub returns : goal.returns
returns c G s = minimal_list-exists (IsMember G) (numerical-set G s)
