use Rattle.sg_small.proofs.LeastLemmas.{from-residue, from-next}
use Rattle.sg_small.proofs.least.least_from.Goals as goal

pub returns-then-least-start-clause-residue : goal.returns-then-least-start-clause-residue
returns-then-least-start-clause-residue c = from-next c.args.start c.args.modulus c.args.class c.requires.class

pub returns-else-least-start-clause-residue : goal.returns-else-least-start-clause-residue
returns-else-least-start-clause-residue c = from-residue c.args.start c.args.modulus c.args.class c.requires.class
