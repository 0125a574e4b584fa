use Rattle.sg_ideal.proofs.SpreadLemmas.{IsSpreadSoFar}
use Rattle.sg_ideal.proofs.classes.spread.Given as goal

abbrev pub invariant-loop-generator : goal.invariant-loop-generator
invariant-loop-generator l = IsSpreadSoFar l.entries l.base l.generators l.generator-index l.list.items
