use Rattle.std.proofs.Common.{slice_index}
use Rattle.sg_invar.proofs.GenusLemmas.{IsSumOfQuotients}
use Rattle.sg_invar.proofs.numbers.genus.Given as goal
use Rattle.sg_apery.specs.Limits.{APERY_ENTRY_LIMIT}

abbrev pub invariant-loop-i : goal.invariant-loop-i
invariant-loop-i l = IsSumOfQuotients l.table (slice_index l.table 0) APERY_ENTRY_LIMIT l.i l.gaps
