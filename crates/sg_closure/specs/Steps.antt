-- Steps between neighbours of a set.
use Rattle.std.specs.Prelude.{ℕ, ◌+◌, ◌-◌, ◌<◌, Bool, List}
use Rattle.sg_closure.specs.Marks.{IsIn}

-- with two neighbours, y after z, the set has the number as far after y
abbrev pub HasSteps : List Bool → Type 0
HasSteps marks = (z y : ℕ) → z < y → IsIn marks z → IsIn marks y → ((n : ℕ) → z < n → n < y → IsIn marks n → ⊥) → IsIn marks (y + y - z)
