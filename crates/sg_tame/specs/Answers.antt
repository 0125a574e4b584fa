-- What is told of the tame degree.
use Rattle.std.specs.Prelude.{ℕ, ◌+◌, ◌-◌, ◌≤◌, List, length, slice_index}
use Rattle.sg_defs.specs.Membership.{IsFactorization}
use Rattle.sg_classes.specs.Fit.{IsSpan}
use Rattle.sg_nonunique.specs.Counts.{Exceeds}
use Rattle.sg_tame.specs.Needed.{IsNeeded}
use Rattle.sg_tame.specs.Tame.{IsTame}
use Rattle.sg_tame.specs.declared.answer.TameAnswer.{TameAnswer}
use Rattle.sg_tame.specs.declared.answer.TameAnswer.TheVariants.{Degree, TooMany}
use Rattle.sg_tame.specs.declared.limits.TheConstants.{COMPARED_LIMIT, TAME_LIMIT}

-- the greatest generator and the span together are within the limit
abbrev pub IsWithinLimit : List ℕ → Type 0
IsWithinLimit G = (s : ℕ) × IsSpan G s × (slice_index G (length G - 1) + s ≤ TAME_LIMIT)

-- some sum of a generator and of a member of some Apery set has too many factorizations
abbrev pub HasTooMany : List ℕ → Type 0
HasTooMany G = (v : ℕ) × IsNeeded G v × Exceeds (IsFactorization G v) COMPARED_LIMIT

-- the tame degree where no such sum has, and else that one has
abbrev pub IsTameAnswer : List ℕ → TameAnswer → Type 0
IsTameAnswer G (Degree N) = IsTame G N × (HasTooMany G → ⊥)
IsTameAnswer G TooMany = HasTooMany G
