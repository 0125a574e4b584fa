use Rattle.std.proofs.Common.{◌<◌, arith}
use Rattle.sg_defs.specs.Membership.{IsFactorization}
use Rattle.sg_laws_families.proofs.CanonicalLemmas.{one-canonical}
use Rattle.sg_betti.proofs.laws.one_canonical_list.Goals as goal

pub returns : goal.returns
returns c G P Q = one-canonical (IsFactorization G) (◌<◌) (λ n m l k. omega arith) P Q
