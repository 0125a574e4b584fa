use Rattle.sg_tables.specs.Few.{IsTableOf}
use Rattle.sg_tables.proofs.FrontLemmas.{IsFront}
use Rattle.sg_tables.proofs.few.take_all.Given as goal

abbrev pub invariant-loop-place : goal.invariant-loop-place
invariant-loop-place l = record {
  table : IsTableOf l.minimal l.table;
  front : IsFront l.generators l.minimal l.place;
}
