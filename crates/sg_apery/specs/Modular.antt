-- When a modular or proportionally modular semigroup is refused.
pub use Rattle.sg_small.specs.Modular.{IsModular, IsProportional, AreModular}
use Rattle.std.specs.Prelude.{◌≡◌, ℕ, ◌<◌, ◌≤◌, ◌⊎◌}
use Rattle.sg_classes.specs.declared.limits.TheConstants.{MODULUS_LIMIT}
use Rattle.sg_classes.specs.Fit.{IsTooLarge}
use Rattle.sg_apery.specs.declared.fault.TableFault.{TableFault}
use Rattle.sg_apery.specs.declared.fault.TableFault.TheVariants.{BadArgument, TooLarge, Memory}

-- a modulus past its limit; then a number that is 0; then a semigroup past the limits
abbrev pub IsModularRefused : ℕ → ℕ → TableFault → Type 0
IsModularRefused a b BadArgument = (b ≤ MODULUS_LIMIT) × ((a ≡ 0) ⊎ (b ≡ 0))
IsModularRefused a b TooLarge = (MODULUS_LIMIT < b) ⊎ (AreModular a b 1 × IsTooLarge (IsModular a b))
IsModularRefused a b (Memory e) = Unit {0}

-- the same of three numbers
abbrev pub IsProportionalRefused : ℕ → ℕ → ℕ → TableFault → Type 0
IsProportionalRefused a b c BadArgument = (b ≤ MODULUS_LIMIT) × ((a ≡ 0) ⊎ (b ≡ 0) ⊎ (c ≡ 0))
IsProportionalRefused a b c TooLarge = (MODULUS_LIMIT < b) ⊎ (AreModular a b c × IsTooLarge (IsProportional a b c))
IsProportionalRefused a b c (Memory e) = Unit {0}
