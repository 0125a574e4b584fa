use Rattle.sg_irred.proofs.ChoiceLemmas.{LiesInFirst}
use Rattle.sg_irred.proofs.decomposition.is_in_each_cover.Given as goal

abbrev pub invariant-loop-k : goal.invariant-loop-k
invariant-loop-k l = LiesInFirst l.table l.given l.h l.k-index
