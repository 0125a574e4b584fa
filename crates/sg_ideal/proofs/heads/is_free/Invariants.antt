use Rattle.std.proofs.Common.{ℕ, ◌<◌, ◌≤◌, ◌-◌, slice_index}
use Rattle.sg_classes.specs.Classes.{IsAboveEntry}
use Rattle.sg_ideal.proofs.heads.is_free.Given as goal

-- none so far leads to the number
abbrev pub invariant-loop-generator : goal.invariant-loop-generator
invariant-loop-generator l = (k : ℕ) → k < l.generator-index → slice_index l.semigroup k ≤ l.number → IsAboveEntry l.entries (l.number - slice_index l.semigroup k) → ⊥
