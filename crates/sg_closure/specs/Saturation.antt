-- The saturated closure by divisors.
use Rattle.std.specs.Prelude.{◌≡◌, ℕ, ◌<◌, ◌≤◌, ◌⊎◌, List, slice_index, Contains}
use Rattle.std.specs.Int.{◌∣◌}

-- d divides the generators below n
abbrev pub DividesBelow : List ℕ → ℕ → ℕ → Type 0
DividesBelow G n d = (g : ℕ) → Contains G g → g < n → d ∣ g

-- x is 0, or at least the multiplicity, and every common divisor of the generators up to x divides it
abbrev pub IsInSaturation : List ℕ → ℕ → Type 0
IsInSaturation G x = (x ≡ 0) ⊎ ((slice_index G 0 ≤ x) × ((d : ℕ) → ((g : ℕ) → Contains G g → g ≤ x → d ∣ g) → d ∣ x))
