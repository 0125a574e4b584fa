use Rattle.std.proofs.Common.{◌≡◌, drop}
use Rattle.sg_value.specs.Known.{Known}
use Rattle.std.specs.Map.{lookup}
use Rattle.std.specs.Str.{bytes_eq}
use Rattle.sg_eval.specs.State.{vars_of}
use Rattle.sg_eval.proofs.variable.find.Given as goal

-- the first of this name stands here or later
abbrev pub invariant-loop-entry : goal.invariant-loop-entry
invariant-loop-entry l = (names : Known) → lookup (bytes_eq l.name) (vars_of names (drop l.entry-index l.entries)) ≡ lookup (bytes_eq l.name) (vars_of names l.entries)
