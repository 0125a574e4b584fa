use Rattle.std.proofs.Common.{suc}
use Rattle.sg_factor.proofs.GreedyLemmas.{IsUsed}
use Rattle.sg_factor.proofs.greatest.greatest_of.Given as goal

abbrev pub invariant-loop-generator : goal.invariant-loop-generator
invariant-loop-generator l = IsUsed l.t l.n (suc l.generator-index) l.rest l.vector
