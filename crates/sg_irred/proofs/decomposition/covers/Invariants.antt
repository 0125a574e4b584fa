use Rattle.std.proofs.Common.{take}
use Rattle.sg_irred.proofs.PlaceLemmas.{AreCovers}
use Rattle.sg_irred.proofs.decomposition.covers.Given as goal

abbrev pub invariant-loop-h : goal.invariant-loop-h
invariant-loop-h l = AreCovers l.table (take l.h-index l.chosen) l.rows
