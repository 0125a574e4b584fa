use Rattle.sg_laws_ideals.proofs.OwnGenerators.{canonical-generators, maximal-generators}
use Rattle.sg_laws_ideals.proofs.laws.the_canonical_and_the_maximal_ideal_have_these_generators.Goals as goal

pub returns-clause-maximal : goal.returns-clause-maximal
returns-clause-maximal c = maximal-generators

pub returns-clause-canonical : goal.returns-clause-canonical
returns-clause-canonical c G f I h g = canonical-generators G f h I g
