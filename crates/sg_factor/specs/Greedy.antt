-- Generators that can not be taken from a number any more.
use Rattle.std.specs.Prelude.{◌≡◌, ℕ, ◌+◌, List}
use Rattle.sg_defs.specs.Membership.{IsMember}

-- without g no member is left of n
abbrev pub IsStuck : List ℕ → ℕ → ℕ → Type 0
IsStuck G n g = (y : ℕ) → y + g ≡ n → IsMember G y → ⊥
