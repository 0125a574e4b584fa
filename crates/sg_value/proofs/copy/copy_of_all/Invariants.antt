use Rattle.std.proofs.Common.{◌≡◌, take, map}
use Rattle.sg_value.specs.Plain.{contents}
use Rattle.sg_value.proofs.copy.copy_of_all.Given as goal

-- the entries so far are copied
abbrev pub invariant-loop-item : goal.invariant-loop-item
invariant-loop-item l = map contents l.copies.items ≡ map contents (take l.item-index l.items)
