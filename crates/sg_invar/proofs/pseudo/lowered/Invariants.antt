use Rattle.std.proofs.Common.{◌≡◌, map, take, pos, ◌-ℤ◌}
use Rattle.sg_invar.proofs.pseudo.lowered.Given as goal

abbrev pub invariant-loop-entry : goal.invariant-loop-entry
invariant-loop-entry l = l.numbers ≡ map (λ entry. pos entry -ℤ pos l.by) (take l.entry-index l.entries)
