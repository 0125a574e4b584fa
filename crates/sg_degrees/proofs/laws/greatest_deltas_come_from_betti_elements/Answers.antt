use Rattle.std.proofs.Common.{length}
use Rattle.sg_defs.specs.Membership.{IsFactorization}
use Rattle.sg_laws_families.proofs.Families.{numbers-family}
use Rattle.sg_laws_families.proofs.GapLemmas.{max_delta-from_betti}
use Rattle.sg_degrees.proofs.laws.greatest_deltas_come_from_betti_elements.Goals as goal

pub returns : goal.returns
returns c G r s h = max_delta-from_betti (IsFactorization G) (λ n. n) (length G) (numbers-family G s) r h
