use Rattle.std.proofs.Common.{◌≡◌, drop, map}
use Rattle.std.specs.Map.{lookup}
use Rattle.std.specs.Str.{bytes_eq}
use Rattle.sg_rows.specs.Names.{entry_of}
use Rattle.sg_rows.proofs.names.find.Given as goal

-- the first of this name stands here or later
abbrev pub invariant-loop-entry : goal.invariant-loop-entry
invariant-loop-entry g l = lookup (bytes_eq l.name) (map entry_of (drop l.entry-index l.entries)) ≡ lookup (bytes_eq l.name) (map entry_of l.entries)
