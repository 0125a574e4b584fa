-- Modular and proportionally modular semigroups.
use Rattle.std.specs.Prelude.{ℕ, ◌*◌, ◌%◌, ◌<◌, ◌≤◌}
use Rattle.sg_classes.specs.declared.limits.TheConstants.{MODULUS_LIMIT}

-- x is at least the remainder of a x
abbrev pub IsModular : ℕ → ℕ → ℕ → Type 0
IsModular a b x = (a * x) % b ≤ x

-- c x is at least the remainder of a x
abbrev pub IsProportional : ℕ → ℕ → ℕ → ℕ → Type 0
IsProportional a b c x = (a * x) % b ≤ c * x

-- numbers above 0, and a modulus within its limit
pub record AreModular (a b c : ℕ) : Type 0 where
  pub within : b ≤ MODULUS_LIMIT
  pub first : 0 < a
  pub modulus : 0 < b
  pub factor : 0 < c
