-- What is said of the entries of a list.
use Rattle.std.specs.Prelude.{ℕ, ◌≤◌, List, slice_index, Contains, EachIndex, ◌<◌, length}
use Rattle.std.specs.Int.{◌∣◌}
use Rattle.sg_classes.specs.declared.limits.TheConstants.{GENERATOR_LIMIT}

-- an entry that no entry exceeds
pub record IsGreatest (xs : List ℕ) (greatest : ℕ) : Type 0 where
  pub listed : Contains xs greatest
  pub above : EachIndex xs (λ k. slice_index xs k ≤ greatest)

-- d divides every entry
abbrev pub IsDivisorOfAll : ℕ → List ℕ → Type 0
IsDivisorOfAll d xs = (k : ℕ) → k < length xs → d ∣ slice_index xs k

-- every entry is below the limit
abbrev pub AreSmall : List ℕ → Type 0
AreSmall given = EachIndex given (λ k. slice_index given k < GENERATOR_LIMIT)

-- an entry is past the limit
abbrev pub HasLarge : List ℕ → Type 0
HasLarge given = (k : ℕ) × (k < length given) × (GENERATOR_LIMIT ≤ slice_index given k)
