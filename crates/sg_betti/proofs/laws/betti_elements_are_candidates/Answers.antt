use Rattle.sg_betti.proofs.CandidateLemmas.{candidate-listed}
use Rattle.sg_laws_families.proofs.BettiLemmas.{betti-candidate}
use Rattle.sg_betti.proofs.laws.betti_elements_are_candidates.Goals as goal

pub returns-clause-candidate : goal.returns-clause-candidate
returns-clause-candidate c G n p = betti-candidate G p n

pub returns-clause-listed : goal.returns-clause-listed
returns-clause-listed c G t n p a h = candidate-listed G t n p a (betti-candidate G p n h)
