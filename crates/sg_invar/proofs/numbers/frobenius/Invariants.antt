use Rattle.std.proofs.Common.{slice_index, ◌≤◌}
use Rattle.sg_invar.proofs.FrobeniusLemmas.{IsGreatest}
use Rattle.sg_invar.proofs.numbers.frobenius.Given as goal
use Rattle.sg_apery.specs.Limits.{APERY_ENTRY_LIMIT}

abbrev pub invariant-loop-i : goal.invariant-loop-i
invariant-loop-i l = record {
  greatest : IsGreatest l.table (slice_index l.table 0) l.i l.greatest;
  small : l.greatest ≤ APERY_ENTRY_LIMIT;
}
