use Rattle.sg_defs.specs.Membership.{IsFactorization}
use Rattle.sg_laws_finite.specs.Listing.{all_factorizations}
use Rattle.sg_laws_finite.proofs.FactorizationLemmas.{factorizations-listed}
use Rattle.sg_laws_finite.proofs.SetLemmas.{class-decided}
use Rattle.sg_laws_finite.proofs.laws.classes_are_decided.Goals as goal

pub returns : goal.returns
returns c G n x y p = class-decided (IsFactorization G n) (all_factorizations G n) (factorizations-listed G n p) x y
