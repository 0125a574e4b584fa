use Rattle.sg_ideal.specs.Heads.{CollectsHeads}
use Rattle.sg_ideal.proofs.heads.class_heads.Given as goal

abbrev pub invariant-loop-entry : goal.invariant-loop-entry
invariant-loop-entry l = CollectsHeads l.semigroup l.entries l.entry-index l.list.items
