use Rattle.std.proofs.Common.{◌≡◌}
use Rattle.sg_value.specs.Plain.{contents_of_all}
use Rattle.sg_meaning.specs.Entries.{integers_from}
use Rattle.sg_eval.proofs.answers.integers_from.Given as goal

-- so many are there
abbrev pub invariant-loop-i : goal.invariant-loop-i
invariant-loop-i l = contents_of_all l.values.items ≡ integers_from l.fn.first l.i
