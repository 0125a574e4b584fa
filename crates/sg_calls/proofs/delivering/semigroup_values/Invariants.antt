use Rattle.std.proofs.Common.{take}
use Rattle.sg_value.specs.Known.{named}
use Rattle.sg_store.specs.Interned.{Keeps}
use Rattle.sg_calls.proofs.Naming.{Name}
use Rattle.sg_calls.proofs.delivering.semigroup_values.Given as goal

-- the values so far name the first semigroups, and what was known stays
abbrev pub invariant-loop-list : goal.invariant-loop-list
invariant-loop-list l = Name (named l.ids) l.values.items (take l.list-index l.lists) × Keeps l.initial.ids l.ids
