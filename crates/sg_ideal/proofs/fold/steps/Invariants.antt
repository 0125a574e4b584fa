use Rattle.sg_ideal.proofs.FoldLemmas.{IsFold}
use Rattle.sg_ideal.proofs.fold.steps.Given as goal

abbrev pub invariant-loop-folds : goal.invariant-loop-folds
invariant-loop-folds l = IsFold l.a l._folds l.list.items
