use Rattle.std.proofs.Common.{ℕ, ◌<◌, ◌+◌, ◌-◌, slice_index}
use Rattle.sg_classes.specs.Classes.{IsAboveEntry}
use Rattle.sg_tables.proofs.minimal.summand_place.Given as goal

-- none of those so far on either side is a summand
abbrev pub invariant-loop-step : goal.invariant-loop-step
invariant-loop-step l = (k : ℕ) → k < l.count → k < l.start + l.step → l.start < k + l.step → IsAboveEntry l.table (l.number - slice_index l.minimal k) → ⊥
