use Rattle.std.proofs.Common.{◌≡◌, drop}
use Rattle.sg_value.specs.Plain.{contents_of_all}
use Rattle.sg_rows.specs.Kinds.{integers}
use Rattle.sg_rows.proofs.IntegerLemmas.{behind}
use Rattle.sg_rows.proofs.kinds.integers_among.Given as goal

-- what was found stands in front of the integers of the rest
abbrev pub invariant-loop-entry : goal.invariant-loop-entry
invariant-loop-entry l = integers (contents_of_all l.entries) ≡ behind l.found (integers (contents_of_all (drop l.entry-index l.entries)))
