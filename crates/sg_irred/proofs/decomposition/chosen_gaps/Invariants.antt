use Rattle.std.specs.Prelude.{reverse}
use Rattle.sg_irred.specs.Cover.{AreNatural}
use Rattle.sg_irred.proofs.ChoiceLemmas.{IsChosenUpTo}
use Rattle.sg_irred.proofs.decomposition.chosen_gaps.Given as goal

abbrev pub invariant-loop-i : goal.invariant-loop-i
invariant-loop-i l = record {
  chosen : IsChosenUpTo l.table (reverse l.special) l.i l.chosen;
  natural : AreNatural l.chosen;
}
