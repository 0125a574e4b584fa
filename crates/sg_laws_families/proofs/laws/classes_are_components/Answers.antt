use Rattle.sg_defs.specs.Membership.{IsFactorization}
use Rattle.sg_nonunique.specs.Affine.{IsVectorFactorization}
use Rattle.sg_laws_families.proofs.PlaceClasses.{class-by_places, number-edge, number-vertex}
use Rattle.sg_laws_families.proofs.laws.classes_are_components.Goals as goal

pub returns-clause-numbers : goal.returns-clause-numbers
returns-clause-numbers c G n = class-by_places (IsFactorization G n)

pub returns-clause-vectors : goal.returns-clause-vectors
returns-clause-vectors c d A v = class-by_places (IsVectorFactorization d A v)

pub returns-clause-vertices : goal.returns-clause-vertices
returns-clause-vertices c = number-vertex

pub returns-clause-edges : goal.returns-clause-edges
returns-clause-edges c = number-edge
