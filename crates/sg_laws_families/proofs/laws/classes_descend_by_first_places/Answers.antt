use Rattle.std.proofs.Common.{length}
use Rattle.sg_defs.specs.Membership.{IsFactorization}
use Rattle.sg_nonunique.specs.Affine.{IsVectorFactorization}
use Rattle.sg_laws_families.proofs.ClassOrder.{greatest-by_first}
use Rattle.sg_laws_families.proofs.laws.classes_descend_by_first_places.Goals as goal

pub returns-clause-numbers : goal.returns-clause-numbers
returns-clause-numbers c G n = greatest-by_first (IsFactorization G n) (length G) (λ x f. f.places)

pub returns-clause-vectors : goal.returns-clause-vectors
returns-clause-vectors c d A v = greatest-by_first (IsVectorFactorization d A v) (length A) (λ x f. f.places)
