use Rattle.sg_laws_invariants.proofs.InvariantsExist.{invariants-exist}
use Rattle.sg_laws_invariants.proofs.laws.a_numerical_semigroup_has_its_invariants.Goals as goal

pub returns : goal.returns
returns c = invariants-exist
