use Rattle.sg_ideal.proofs.ReduceLemmas.{IsReducedSoFar}
use Rattle.sg_ideal.proofs.classes.reduce.Given as goal

abbrev pub invariant-loop-generator : goal.invariant-loop-generator
invariant-loop-generator l = IsReducedSoFar l.entries l.base l.generators l.generator-index l.list.items
