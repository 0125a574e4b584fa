use Rattle.std.proofs.Common.{ℕ, ◌<◌}
use Rattle.sg_apery.specs.Common.{IsCommonEntry}
use Rattle.sg_apery.proofs.derived.common_member.Given as goal

abbrev pub invariant-loop-n : goal.invariant-loop-n
invariant-loop-n l = (k : ℕ) → k < l.n → IsCommonEntry l.first l.second k → ⊥
