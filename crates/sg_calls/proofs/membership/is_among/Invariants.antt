use Rattle.std.proofs.Common.{◌↔◌, drop}
use Rattle.sg_value.specs.Known.{named}
use Rattle.sg_value.specs.Plain.{plain, plain_of_all}
use Rattle.sg_rows.specs.Entries.{IsEntry}
use Rattle.sg_calls.proofs.membership.is_among.Given as goal

-- it stands here or later, or nowhere
abbrev pub invariant-loop-entry : goal.invariant-loop-entry
invariant-loop-entry l = IsEntry (plain (named l.ids) l.v) (plain_of_all (named l.ids) (drop l.entry-index l.entries)) ↔ IsEntry (plain (named l.ids) l.v) (plain_of_all (named l.ids) l.entries)
