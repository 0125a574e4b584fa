use Rattle.sg_defs.specs.Membership.{IsFactorization}
use Rattle.sg_laws_finite.specs.Listing.{all_factorizations}
use Rattle.sg_laws_finite.proofs.FactorizationLemmas.{factorizations-listed}
use Rattle.sg_laws_finite.proofs.SetLemmas.{catenary-exists}
use Rattle.sg_laws_finite.proofs.laws.the_catenary_degree_of_an_element_exists.Goals as goal

pub returns : goal.returns
returns c G n p = catenary-exists (IsFactorization G n) (all_factorizations G n) (factorizations-listed G n p)
