use Rattle.std.proofs.Common.{◌<◌, length, arith}
use Rattle.sg_defs.specs.Membership.{IsFactorization}
use Rattle.sg_laws_families.proofs.CanonicalLemmas.{canonical-relations, canonical-presents, canonical-none_spare}
use Rattle.sg_laws_families.proofs.Families.{numbers-family}
use Rattle.sg_betti.proofs.laws.canonical_relations_present.Goals as goal

pub returns-clause-relations : goal.returns-clause-relations
returns-clause-relations c G P p h = canonical-relations (IsFactorization G) (λ n. n) (length G) (numbers-family G p) (◌<◌) P h

pub returns-clause-presents : goal.returns-clause-presents
returns-clause-presents c G P p h = canonical-presents (IsFactorization G) (λ n. n) (length G) (numbers-family G p) (◌<◌) P h

pub returns-clause-none_spare : goal.returns-clause-none_spare
returns-clause-none_spare c G P p h =
    canonical-none_spare (IsFactorization G) (λ n. n) (length G) (numbers-family G p) (◌<◌) P h (λ n l. omega arith)
