use Rattle.sg_tame.proofs.LeastDistances.{tame-from_greatest}
use Rattle.sg_tame.proofs.MinimalLemmas.{bound-iff, one-tame}
use Rattle.sg_tame.proofs.TameExists.{greatest-from_tame}
use Rattle.sg_tame.proofs.laws.the_tame_degree_comes_from_minimal_vectors.Goals as goal

pub returns-clause-bound : goal.returns-clause-bound
returns-clause-bound c = bound-iff

pub returns-clause-greatest : goal.returns-clause-greatest
returns-clause-greatest c = λ G N positive. tame-from_greatest G positive N

pub returns-clause-reached : goal.returns-clause-reached
returns-clause-reached c = λ G N s. greatest-from_tame G s N

pub returns-clause-one : goal.returns-clause-one
returns-clause-one c = one-tame
