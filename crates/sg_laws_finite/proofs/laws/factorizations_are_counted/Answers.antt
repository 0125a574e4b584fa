use Rattle.sg_defs.specs.Membership.{IsFactorization}
use Rattle.sg_laws_finite.proofs.CountLemmas.{exceeds-iff, listing-from_descending}
use Rattle.sg_laws_finite.proofs.laws.factorizations_are_counted.Goals as goal

pub returns : goal.returns
returns c G n b l h = exceeds-iff (IsFactorization G n) l b (listing-from_descending (IsFactorization G n) l h)
