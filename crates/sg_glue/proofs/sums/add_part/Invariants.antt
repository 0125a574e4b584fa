use Rattle.std.proofs.Common.{◌≡◌, ℕ, List, length}
use Rattle.sg_glue.specs.Sums.{TellsSums}
use Rattle.sg_glue.proofs.SumLemmas.{TellsSumsUpTo}
use Rattle.sg_glue.proofs.sums.add_part.Given as goal

abbrev pub invariant-loop-sum : goal.invariant-loop-sum
invariant-loop-sum l = record {
  long : length l.table ≡ length l.fn.table;
  sums : (D : List ℕ) → TellsSums D l.fn.table → TellsSumsUpTo D l.part l.table l.sum;
}
